pub mod Working
pub mod Latest
pub mod Ends
