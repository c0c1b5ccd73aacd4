-- What is proved of the definitions: each file states one theorem, to be read alone; proofs/ has its proof under the same name.
pub mod Truth
pub mod Numbering
pub mod Grammar
pub mod Flattening
pub mod Encoding
pub mod ReadingBack
pub mod Least
pub mod FindsLeast
pub mod Settling
pub mod PlainFinds
pub mod Walk
pub mod Counts
pub mod SheetRead
pub mod Columns
pub mod Explaining
pub mod Settings
pub mod Explainer
