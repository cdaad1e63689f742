pub mod Start
pub mod Exactly
