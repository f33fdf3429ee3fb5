pub mod Events
pub mod Ring
