pub mod State
pub mod Limits
pub mod Memory
pub mod WithinLimits
