pub mod Counts
pub mod Turns
pub mod Left
pub mod Rows
pub mod Once
pub mod Example
