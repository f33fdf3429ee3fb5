pub mod Prescribed
pub mod Totals
