pub mod Outcomes
pub mod Lines
pub mod Texts
pub mod Limits
