pub mod Answering
pub mod Reasons
