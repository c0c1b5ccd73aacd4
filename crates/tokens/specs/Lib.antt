pub mod Pieces
pub mod NextTokens
pub mod LinePlaces
