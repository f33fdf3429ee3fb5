pub mod Fields
pub mod Places
