pub mod Lists
pub mod Passing
pub mod Told
