pub mod Entries
pub mod Keeping
pub mod Candidates
pub mod All
