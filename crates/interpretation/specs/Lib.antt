pub mod Vectors
pub mod Tables
