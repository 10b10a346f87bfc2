pub mod Patches
pub mod Tails
