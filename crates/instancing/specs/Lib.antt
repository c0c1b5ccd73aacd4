pub mod Choices
pub mod ClauseForms
pub mod InstancePart
