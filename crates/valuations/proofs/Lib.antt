pub mod Numbered
pub mod Bits
pub mod Blocks
