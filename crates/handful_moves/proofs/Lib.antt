-- The promises of this crate.
pub mod Sums
pub mod HandfulMoves
pub mod MovedAt
