pub mod ConstantClauses
pub mod Obeying
pub mod SymmetricOperations
pub mod Examples
pub mod Claims
