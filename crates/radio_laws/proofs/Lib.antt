-- The promises of this crate.
pub mod Holding
pub mod OptionByOption
pub mod Answered
