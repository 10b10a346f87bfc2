pub mod Steps
pub mod Hosts
