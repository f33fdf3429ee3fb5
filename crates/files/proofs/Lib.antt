pub mod Sounds
pub mod Day
pub mod Codes
pub mod Limits
pub mod Never
pub mod Coded
