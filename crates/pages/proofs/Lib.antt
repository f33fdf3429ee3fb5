pub mod Filling
pub mod Text
pub mod Once
