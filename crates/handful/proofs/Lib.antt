-- `Summing` to `Turning` are what the functions' proofs cite.
pub mod Summing
pub mod Locating
pub mod Offering
pub mod Bounds
pub mod Turning
pub mod Handing
