pub mod Absences
pub mod Accumulations
pub mod Choices
pub mod Combines
pub mod Findings
pub mod Only
pub mod Steps
pub mod Table
