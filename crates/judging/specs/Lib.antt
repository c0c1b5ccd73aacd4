pub mod Failures
pub mod Cases
pub mod Reasons
