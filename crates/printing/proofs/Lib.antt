pub mod Printing
pub mod Results
pub mod ReasonLines
pub mod Explained
