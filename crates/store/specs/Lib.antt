pub mod Packets
pub mod Moves
pub mod Waiting
pub mod Parts
