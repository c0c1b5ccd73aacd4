pub mod FirstValues
pub mod Fitting
pub mod Searched
pub mod Found
pub mod SizeBySize
pub mod Endings
pub mod WritingFound
pub mod Refusing
