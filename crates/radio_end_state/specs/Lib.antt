pub mod Channel
pub mod State
pub mod Limits
pub mod Message
pub mod Calls
pub mod Each
