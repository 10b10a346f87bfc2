pub mod Made
pub mod AllHosts
pub mod ShutOut
