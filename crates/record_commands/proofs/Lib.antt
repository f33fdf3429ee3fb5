pub mod Steps
pub mod Deletes
pub mod Adds
pub mod Updates
pub mod Leaks
