pub mod Bits
pub mod Shown
pub mod CaseLines
pub mod Written
pub mod Answered
pub mod Fronts
