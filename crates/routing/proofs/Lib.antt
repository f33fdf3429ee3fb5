pub mod Steps
pub mod Law
pub mod Responses
pub mod Commands
pub mod Messages
pub mod Once
