-- The laws of the header, for this crate's proofs and for those above it.
pub mod Planes
pub mod PlaneRows
pub mod Carried
