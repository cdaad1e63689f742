pub mod Outcomes
pub mod Exports
pub mod Handing
pub mod Shown
pub mod Numbers
