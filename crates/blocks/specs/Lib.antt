pub mod Words
pub mod Blocks
