-- The laws of counting, for this crate's proofs and for those above it.
pub mod Tests
pub mod Distance
pub mod Window
