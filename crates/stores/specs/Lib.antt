pub mod Records
pub mod Stores
pub mod Meanings
pub mod Kinds
pub mod StoreLaws
