pub mod PacketTaken
pub mod Unique
