pub mod Names
pub mod Words
pub mod Grammar
pub mod Clauses
