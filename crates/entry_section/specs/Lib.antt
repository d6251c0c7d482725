pub mod EntryParts
pub mod EntryLines
