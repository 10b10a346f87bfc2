pub mod Fronts
pub mod Serving
