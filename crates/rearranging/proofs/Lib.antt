pub mod Entering
pub mod Covering
pub mod Listing
pub mod Keeping
pub mod Parts
pub mod Symbols
pub mod Walking
pub mod Least
