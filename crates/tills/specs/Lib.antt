pub mod Tills
pub mod Less
pub mod Desks
pub mod Calls
pub mod Needed
pub mod Later
