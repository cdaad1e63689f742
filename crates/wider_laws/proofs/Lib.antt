-- Raised limits: the promises.
pub mod Each
pub mod Fitting
pub mod Calling
pub mod Keeping
pub mod Widened
pub mod Shown
pub mod Example
