pub mod Lookups
pub mod Checks
pub mod Passes
