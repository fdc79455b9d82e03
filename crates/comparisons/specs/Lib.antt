pub mod Answers
pub mod Notes
