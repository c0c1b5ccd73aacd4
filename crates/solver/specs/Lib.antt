pub mod SolverLines
pub mod Replies
pub mod SolverText
pub mod OnePass
pub mod Examples
pub mod Claims
