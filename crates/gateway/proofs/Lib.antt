pub mod Seats
pub mod Working
