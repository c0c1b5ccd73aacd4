pub mod Constants
pub mod TwinPart
