pub mod Shown
pub mod Ran
