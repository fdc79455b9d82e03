pub mod Happened
pub mod Inputs
pub mod Parts
pub mod Rows
pub mod Runs
