pub mod CellsRead
pub mod Judged
pub mod MostVariables
pub mod Outcomes
pub mod Chain
pub mod Stated
pub mod Marked
