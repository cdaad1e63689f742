pub mod Adding
pub mod Outcomes
pub mod Places
pub mod Counts
