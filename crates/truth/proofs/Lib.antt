pub mod Standing
pub mod Stack
pub mod Variables
pub mod SymbolCells
pub mod InsideOut
pub mod Atoms
pub mod Clausewise
