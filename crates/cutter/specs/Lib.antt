pub mod Cutting
pub mod Handing
pub mod Said
