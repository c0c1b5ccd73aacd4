pub mod Flat
pub mod Assembled
