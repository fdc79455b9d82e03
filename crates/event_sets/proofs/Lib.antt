pub mod Counts
pub mod Members
pub mod Walks
pub mod Words
