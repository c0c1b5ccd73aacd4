pub mod Appearing
pub mod Inserting
pub mod Signatures
pub mod Tables
pub mod Declaring
pub mod Lettering
pub mod Occurring
