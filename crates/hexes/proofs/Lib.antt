pub mod Writing
pub mod Reading
pub mod Back
pub mod Once
pub mod Shown
