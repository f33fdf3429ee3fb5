pub mod Steps
pub mod Sights
