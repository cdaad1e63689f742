pub mod Run
pub mod Promised
