pub mod Emitting
pub mod Limits
