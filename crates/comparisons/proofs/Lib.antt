pub mod Comparisons
pub mod Entries
pub mod Notes
pub mod Relations
pub mod Theorems
