pub mod Lengths
pub mod Bounds
pub mod Passes
pub mod ThreeParts
