pub mod Configs
pub mod OneStore
pub mod HeadMoved
