pub mod Cells
pub mod Kept
pub mod Small
pub mod Free
pub mod Once
pub mod Moved
pub mod Example
