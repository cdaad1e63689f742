-- The laws that the proofs of this crate share, and `Held` and `Lasting` for those above it.
pub mod Bytes
pub mod Lasting
pub mod Expiry
pub mod Entries
pub mod Turns
pub mod Held
pub mod Moved
pub mod Changes
