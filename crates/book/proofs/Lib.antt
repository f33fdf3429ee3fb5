pub mod Laws
pub mod Views
pub mod Tables
pub mod Marked
pub mod Searches
pub mod Kept
pub mod Moved
pub mod Blanks
