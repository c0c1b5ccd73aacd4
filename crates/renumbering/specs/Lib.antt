pub mod Rearrangements
pub mod Renumbering
pub mod LeastForm
pub mod Examples
pub mod Claims
