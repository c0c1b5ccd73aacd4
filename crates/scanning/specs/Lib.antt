pub mod Ahead
pub mod Entries
pub mod Taking
