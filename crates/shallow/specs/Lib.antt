pub mod Placed
pub mod Literals
pub mod Flattenable
pub mod Shallow
