pub mod Telling
pub mod Reading
pub mod Theorems
pub mod Examples
