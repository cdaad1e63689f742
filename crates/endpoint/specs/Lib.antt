pub mod Lent
pub mod Calls
pub mod Radio
pub mod Ran
pub mod Shown
