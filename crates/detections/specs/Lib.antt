pub mod Findings
pub mod Views
pub mod Writing
pub mod Steps
