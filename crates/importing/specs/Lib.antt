pub mod Entered
pub mod Words
pub mod Noting
pub mod Surveys
pub mod Calls
