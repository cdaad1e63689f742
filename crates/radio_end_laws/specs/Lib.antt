pub mod Plain
pub mod Limits
pub mod Given
pub mod Fresh
pub mod Words
pub mod Rows
