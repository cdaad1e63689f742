-- The laws that the proofs of this crate share.
pub mod Showing
pub mod Planes
pub mod Writing
pub mod Lines
pub mod Handing
