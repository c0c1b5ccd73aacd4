pub mod CellPart
