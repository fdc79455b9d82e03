pub mod Answers
pub mod Latest
pub mod Theorems
