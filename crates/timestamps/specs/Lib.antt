pub mod Comparison
pub mod Composite
pub mod Examples
pub mod Join
pub mod Maxima
pub mod Notes
pub mod Order
