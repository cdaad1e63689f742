pub mod Account
pub mod Numbers
pub mod Places
pub mod Refused
pub mod Examples
pub mod PlainNumbers
