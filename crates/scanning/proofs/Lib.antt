pub mod Lookahead
pub mod NextTaken
pub mod WholeEntered
