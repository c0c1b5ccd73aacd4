pub mod Tables
pub mod Letters
