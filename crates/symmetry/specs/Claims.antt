-- What is proved of the constant clauses: each file states one theorem, to be read alone; proofs/ has its proof under the same name.
pub mod ConstantClauses
pub mod Obeying
pub mod NamedTwins
pub mod FindsObeying
pub mod Switches
pub mod Asked
pub mod ToldNo
