pub mod Back
pub mod Ranges
pub mod Saving
pub mod Saying
