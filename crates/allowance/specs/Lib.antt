pub mod AllowedWalk
pub mod AllowedSearch
pub mod AllowedFind
pub mod FinderProgram
pub mod Examples
pub mod Claims
