pub mod Handful
pub mod Offering
