pub mod Adding
pub mod Clearing
pub mod Notes
pub mod Entries
