pub mod Answers
pub mod Dues
pub mod Events
pub mod Running
pub mod Standing
pub mod Turned
pub mod Turning
