pub mod Clauses
pub mod Weights
pub mod Units
pub mod WorkArea
pub mod Forcing
pub mod Advance
