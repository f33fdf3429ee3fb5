pub mod Forms
pub mod Ink
