-- The laws of a line's answer, for this crate's proofs and for those above it.
pub mod Laws
-- Document 01's example, and lines that are bad, byte by byte.
pub mod Rows
