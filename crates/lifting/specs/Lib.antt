pub mod Places
pub mod Rows
pub mod Lifts
pub mod Reading
