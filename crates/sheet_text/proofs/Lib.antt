pub mod Symbols
pub mod LinesWritten
pub mod SymbolLines
pub mod HeadParts
pub mod WordTexts
pub mod WordsBefore
pub mod SheetParts
