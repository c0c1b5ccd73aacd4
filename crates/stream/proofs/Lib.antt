pub mod Codes
pub mod OneClause
pub mod Streams
pub mod Texts
