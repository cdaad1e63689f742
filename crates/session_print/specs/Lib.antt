pub mod Readings
pub mod Echoes
pub mod Messages
pub mod Answers
pub mod Shown
