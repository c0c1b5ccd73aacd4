pub mod Dues
pub mod Follows
