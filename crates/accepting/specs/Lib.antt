pub mod Calls
pub mod Accepting
