pub mod Ranks
pub mod Steps
pub mod Counting
pub mod Tabling
