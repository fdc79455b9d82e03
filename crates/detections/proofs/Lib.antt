pub mod Writing
pub mod Sizes
pub mod LowestByte
pub mod Stamps
pub mod Events
pub mod Findings
pub mod Rising
pub mod Examples
