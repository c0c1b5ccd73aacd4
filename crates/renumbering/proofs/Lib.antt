pub mod Examples
pub mod Places
pub mod Rearrangements
pub mod Renumbering
pub mod ValueOrder
pub mod LeastForm
