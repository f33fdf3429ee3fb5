pub mod Said
pub mod Left
pub mod Filling
pub mod Text
pub mod Plain
