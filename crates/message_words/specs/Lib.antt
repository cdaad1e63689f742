pub mod Saying
pub mod Phrases
