pub mod Nexts
pub mod Rooms
