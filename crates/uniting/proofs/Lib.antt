pub mod LineRuns
pub mod Meeting
pub mod NewLines
pub mod Sections
pub mod SheetRuns
pub mod Uniting
pub mod Chain
