pub mod Front
pub mod Inked
