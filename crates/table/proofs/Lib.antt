pub mod Bytes
pub mod Desk
pub mod Judged
pub mod Marks
pub mod Once
pub mod Read
pub mod Cells
