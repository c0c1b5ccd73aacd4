pub mod WordsLeft
