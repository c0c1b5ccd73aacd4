pub mod Signatures
pub mod Codes
pub mod Places
pub mod Clauses
pub mod Sizes
pub mod NamesLent
