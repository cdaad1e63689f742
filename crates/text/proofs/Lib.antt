-- The laws of text, for this crate's proofs and for those above it.
pub mod Spaces
pub mod Reading
pub mod Bounds
pub mod Writing
pub mod Signs
pub mod Decimals
pub mod Hexadecimal
pub mod Inverse
-- Words byte by byte.
pub mod Rows
