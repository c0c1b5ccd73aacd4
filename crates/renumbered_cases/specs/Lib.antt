pub mod RenumberedCases
pub mod Examples
pub mod Claims
