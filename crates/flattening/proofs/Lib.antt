pub mod Assembling
pub mod Definitions
pub mod PlacedInstances
pub mod PlacedScope
