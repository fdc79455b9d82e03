pub mod Combination
pub mod Latest
pub mod Occurrences
pub mod Packed
pub mod Steps
