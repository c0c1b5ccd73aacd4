pub mod AllComputed
pub mod AllowedWalk
pub mod Allowance
pub mod AllowedFind
pub mod NotStopped
pub mod FourLines
pub mod FinderProgram
