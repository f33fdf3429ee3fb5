pub mod Lists
pub mod Arrays
pub mod ByPlace
pub mod Least
