pub mod Bytes
pub mod Handling
pub mod Judging
pub mod Once
pub mod Replies
pub mod Ring
pub mod Seam
pub mod Sums
