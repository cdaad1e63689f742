-- The promises of this crate.
pub mod Sources
pub mod LeastMoves
pub mod Attained
pub mod Waiting
pub mod Pinned
