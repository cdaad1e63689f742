pub mod OptionByOption
pub mod Answered
