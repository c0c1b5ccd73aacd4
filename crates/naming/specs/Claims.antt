-- What is proved of the mode: each file states one theorem, to be read alone; proofs/ has its proof under the same name.
pub mod Naming
pub mod Reading
pub mod Finding
pub mod ReadingBack
pub mod FindsLeast
