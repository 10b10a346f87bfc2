pub mod Steps
pub mod Rooms
pub mod Firsts
pub mod Furthers
