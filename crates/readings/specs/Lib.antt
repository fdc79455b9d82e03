pub mod Reader
pub mod Views
pub mod Steps
