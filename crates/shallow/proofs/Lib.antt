pub mod Written
pub mod Equalities
pub mod Atoms
pub mod Progress
