pub mod Marks
pub mod Digits
pub mod StageMatches
pub mod NumbersHeard
pub mod WordsHeard
pub mod LinesHeard
