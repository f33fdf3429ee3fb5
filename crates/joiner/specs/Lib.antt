pub mod Joining
pub mod Said
pub mod Sending
pub mod Sources
