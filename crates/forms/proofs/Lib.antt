pub mod Weights
pub mod Meaning
pub mod Gathering
pub mod Evaluating
pub mod Groundables
