pub mod Calls
pub mod Searching
pub mod Ending
