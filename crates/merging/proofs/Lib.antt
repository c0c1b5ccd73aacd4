pub mod Leftmost
pub mod Renaming
pub mod Deleting
pub mod Rounds
