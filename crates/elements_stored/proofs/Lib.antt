pub mod Fits
pub mod Writes
pub mod Stores
pub mod Ends
