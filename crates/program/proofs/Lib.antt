pub mod RefusalLines
pub mod Searching
pub mod Inputs
pub mod ShortAnswers
pub mod Refusing
