pub mod Fronts
pub mod Done
