pub mod Signatures
pub mod Codes
pub mod Variables
pub mod Sizes
pub mod Faults
