pub mod Actions
pub mod Carried
pub mod Each
pub mod Groups
pub mod Meetings
pub mod Views
pub mod Waiting
