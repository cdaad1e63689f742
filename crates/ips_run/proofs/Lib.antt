-- Any sequence of calls.
pub mod Exact
pub mod Serving
pub mod Ordered
pub mod Hearing
pub mod Project
pub mod Datagrams
pub mod Fresh
pub mod Whole
pub mod Kept
pub mod Times
pub mod Settling
pub mod Example
