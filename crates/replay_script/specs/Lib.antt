pub mod Lines
pub mod Numbers
pub mod Names
pub mod Tables
