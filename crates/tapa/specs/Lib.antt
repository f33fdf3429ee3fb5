pub mod Address
pub mod Codes
pub mod Numbers
pub mod Refusals
pub mod Said
