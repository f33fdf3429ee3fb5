pub mod Chains
pub mod Settled
