pub mod Refusals
pub mod Entries
pub mod Trees
pub mod Prefixes
pub mod Meanings
pub mod Jobs
