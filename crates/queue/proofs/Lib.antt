pub mod Laws
pub mod Taking
pub mod Once
pub mod Searching
pub mod Still
