pub mod Bits
pub mod Due
pub mod Fillings
pub mod Made
pub mod Rooms
pub mod Takers
