pub mod ByteRuns
pub mod CommentEnds
pub mod NumberLengths
pub mod PieceStarts
pub mod NextPieces
pub mod LineSteps
