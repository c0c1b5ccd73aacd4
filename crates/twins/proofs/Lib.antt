pub mod Noting
pub mod TwinWalk
