pub mod Outcomes
pub mod Named
pub mod Exports
pub mod Shown
pub mod Numbers
pub mod Ran
