pub mod Codes
pub mod Noted
pub mod Windows
