pub mod RecordsBack
pub mod Happened
pub mod Freshened
