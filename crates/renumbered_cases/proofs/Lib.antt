pub mod Examples
pub mod RenumberedCases
