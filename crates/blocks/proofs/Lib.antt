pub mod Indenting
pub mod Room
pub mod Shows
pub mod Heads
pub mod Example
