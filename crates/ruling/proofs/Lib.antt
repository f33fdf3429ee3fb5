pub mod Commands
pub mod Once
