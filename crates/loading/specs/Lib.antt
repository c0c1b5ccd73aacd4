pub mod Filling
pub mod Loading
