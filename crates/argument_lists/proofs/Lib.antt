pub mod Passes
pub mod NotedLists
pub mod ToldLists
pub mod KeptSlices
