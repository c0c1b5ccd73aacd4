pub mod Moves
pub mod Search
