pub mod InOrder
pub mod StoredInOrder
pub mod ShownInOrder
pub mod Stands
