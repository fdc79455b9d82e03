pub mod Appends
pub mod Holding
pub mod Lists
pub mod Marks
pub mod Orders
pub mod Removals
pub mod Views
pub mod Waits
