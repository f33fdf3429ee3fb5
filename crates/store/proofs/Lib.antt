pub mod Writes
pub mod Deeds
pub mod Handling
pub mod Right
pub mod Kept
pub mod Once
pub mod Bytes
