pub mod Meeting
pub mod Acting
