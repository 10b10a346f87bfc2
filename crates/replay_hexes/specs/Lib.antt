pub mod Hexes
