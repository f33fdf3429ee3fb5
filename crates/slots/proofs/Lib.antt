pub mod Slots
pub mod Once
