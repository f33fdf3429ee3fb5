pub mod View
pub mod Judge
pub mod Apply
pub mod Old
pub mod Said
pub mod Says
pub mod Conduct
pub mod Words
