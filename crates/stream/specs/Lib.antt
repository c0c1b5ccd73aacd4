pub mod Consumers
pub mod Consuming
pub mod Literals
