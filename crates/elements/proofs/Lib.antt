pub mod Known
pub mod Passing
pub mod Judging
