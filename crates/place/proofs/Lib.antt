pub mod Numbers
pub mod Once
pub mod Words
