pub mod Unfold
pub mod Left
pub mod Contents
pub mod Bytes
pub mod Written
