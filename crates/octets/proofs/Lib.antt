-- The laws of a search, for this crate's proof of it.
pub mod Search
