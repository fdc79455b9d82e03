pub mod Bytes
pub mod Forms
pub mod Sections
pub mod Views
