pub mod Ledger
pub mod Plain
