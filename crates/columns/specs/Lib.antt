pub mod Lines
pub mod Due
pub mod Good
pub mod Words
pub mod Sheets
pub mod Cases
pub mod Opened
