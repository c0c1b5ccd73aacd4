pub mod CellWalk
