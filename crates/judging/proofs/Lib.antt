pub mod Passing
pub mod ClausesLent
pub mod Unfailed
pub mod Verdicts
pub mod CasesRead
pub mod LettersShown
pub mod ValuesShown
pub mod ReasonsGiven
