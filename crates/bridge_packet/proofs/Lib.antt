pub mod LinkBack
pub mod Telling
pub mod Taking
