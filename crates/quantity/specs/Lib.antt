pub mod Limits
pub mod Refusals
pub mod Distance
pub mod Window
