pub mod Store
pub mod Plain
