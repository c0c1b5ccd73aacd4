-- What is proved of the search with an allowance: each file states one theorem, to be read alone; proofs/ has its proof under the same name.
pub mod AllowedWalk
pub mod Allowance
pub mod AllowedFind
pub mod NotStopped
pub mod FinderProgram
