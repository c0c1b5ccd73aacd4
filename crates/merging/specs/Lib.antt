pub mod Unequal
pub mod Merged
