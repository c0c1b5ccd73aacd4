pub mod Part
pub mod Ends
pub mod Keys
pub mod Counts
pub mod Decimal
pub mod Backwards
pub mod Positions
