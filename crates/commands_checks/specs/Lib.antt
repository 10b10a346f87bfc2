pub mod Met
pub mod Named
