pub mod Engraving
pub mod Sheets
pub mod Filling
pub mod Ink
pub mod Example
pub mod Once
