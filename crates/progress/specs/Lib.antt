pub mod Happened
pub mod Progress
pub mod Rows
pub mod Seats
pub mod Steps
