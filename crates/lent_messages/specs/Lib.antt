pub mod Layout
pub mod Stated
pub mod Words
