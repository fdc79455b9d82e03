pub mod Numbers
pub mod Forms
pub mod Pieces
pub mod Sections
pub mod Layouts
pub mod Faults
pub mod Prefixes
pub mod First
