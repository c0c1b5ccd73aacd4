pub mod CellBits
pub mod Blocks
pub mod Answered
