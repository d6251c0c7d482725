pub mod Walks
pub mod Segments
