pub mod Ends
pub mod Further
pub mod Within
