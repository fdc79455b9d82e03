pub mod Carried
pub mod Halves
pub mod Sides
pub mod Spares
pub mod Table
pub mod Turns
