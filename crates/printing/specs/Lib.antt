pub mod Reports
pub mod Reasons
