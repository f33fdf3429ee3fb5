pub mod States
pub mod Counts
pub mod Once
