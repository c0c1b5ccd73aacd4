pub mod Runs
pub mod Joins
pub mod United
pub mod Calls
