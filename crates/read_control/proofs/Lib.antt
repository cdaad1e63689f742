-- The laws of a control message, for the proofs of its loop.
pub mod Message
