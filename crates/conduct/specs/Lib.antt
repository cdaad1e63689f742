pub mod Outcomes
pub mod Account
pub mod Words
