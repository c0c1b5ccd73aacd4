-- What is proved of the definitions: each file states one theorem, to be read alone; proofs/ has its proof under the same name.
pub mod Renumbering
pub mod LeastForm
