pub mod Stretch
pub mod Tables
