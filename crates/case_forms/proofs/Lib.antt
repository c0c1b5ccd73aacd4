pub mod Answered
pub mod Held
