pub mod Categories
pub mod Codecs
