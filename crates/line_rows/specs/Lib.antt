pub mod Rows
pub mod Cursors
pub mod Tables
pub mod Places
