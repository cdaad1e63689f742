pub mod Plain
pub mod Rows
