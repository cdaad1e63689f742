pub mod Plain
pub mod Acts
