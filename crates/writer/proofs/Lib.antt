pub mod ControlMessage
pub mod DataMessage
pub mod Outcomes
pub mod Short
