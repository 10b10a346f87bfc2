pub mod Doings
pub mod Sets
pub mod Anew
