pub mod Words
pub mod Start
pub mod Offers
pub mod Lines
