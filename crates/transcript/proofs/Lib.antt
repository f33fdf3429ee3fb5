pub mod Page
pub mod Ends
pub mod Short
pub mod Sums
