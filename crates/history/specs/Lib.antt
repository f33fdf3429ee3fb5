pub mod History
pub mod Old
pub mod Marks
pub mod Never
pub mod Opening
pub mod Promise
pub mod Needed
pub mod Admitted
