pub mod Rows
pub mod Standing
pub mod Sharing
pub mod Words
pub mod Steps
