pub mod Heads
pub mod Unread
pub mod Files
pub mod Endings
pub mod Reading
