-- The laws of one option's answer, for this crate's proofs.
pub mod Contents
