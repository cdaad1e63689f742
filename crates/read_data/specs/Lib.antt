pub mod Message
pub mod Packet
