pub mod Channel
pub mod Fresh
