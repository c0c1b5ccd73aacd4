pub mod Refusing
pub mod Written
