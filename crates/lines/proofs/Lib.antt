-- The laws of lines, for this crate's proofs and for those above it.
pub mod Laws
pub mod Split
pub mod Whole
pub mod Rows
