pub mod Stores
pub mod Picked
