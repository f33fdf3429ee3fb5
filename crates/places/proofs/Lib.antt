pub mod Once
pub mod Points
pub mod Room
pub mod Two
pub mod Leaves
pub mod Tree
