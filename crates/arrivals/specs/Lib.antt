pub mod Meetings
pub mod Views
