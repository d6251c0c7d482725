pub mod JobRows
pub mod Finds
pub mod Oldest
