-- The laws of numbers and of options, for this crate's proofs and for those above it.
pub mod Numbers
pub mod Options
