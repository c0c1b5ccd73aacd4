pub mod SizeBySize
pub mod Guesses
pub mod Filled
pub mod Choosing
pub mod LeastFilled
pub mod Models
pub mod Endings
