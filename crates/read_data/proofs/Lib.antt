-- The laws of a data message and of its packet, for the proofs of their loops.
pub mod Message
pub mod Carried
