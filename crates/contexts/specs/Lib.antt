pub mod Choice
pub mod Made
pub mod Steps
pub mod Table
