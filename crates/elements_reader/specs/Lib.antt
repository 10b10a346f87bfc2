pub mod Standing
pub mod Orders
