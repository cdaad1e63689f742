-- The laws of the state: `UpTo` of a test on each number below another, `Fit` of number 19 as facts, `Keeps` of refusals.
pub mod UpTo
pub mod Fit
pub mod Keeps
