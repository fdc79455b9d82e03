pub mod Examples
pub mod Faults
pub mod Limits
pub mod Sections
pub mod Slots
pub mod Theorems
pub mod First
