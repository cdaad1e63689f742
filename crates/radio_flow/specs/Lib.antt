pub mod Granting
pub mod Numbers
pub mod Rows
