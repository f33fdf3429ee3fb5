pub mod Checking
pub mod Laws
pub mod Once
