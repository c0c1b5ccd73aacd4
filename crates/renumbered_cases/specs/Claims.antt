-- What is proved of the definitions; proofs/ has its proof under the same name.
pub mod RenumberedCases
