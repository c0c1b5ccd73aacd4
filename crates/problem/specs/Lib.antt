pub mod Lines
pub mod Symbols
pub mod Sections
pub mod Problems
pub mod Stages
pub mod ClausePlaces
pub mod NamedTerms
pub mod Modes
