pub mod Awaits
pub mod Idles
pub mod Downs
