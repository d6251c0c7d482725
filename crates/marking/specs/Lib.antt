pub mod Marking
pub mod Counting
