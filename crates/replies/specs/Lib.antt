pub mod Checked
pub mod Replies
pub mod Said
