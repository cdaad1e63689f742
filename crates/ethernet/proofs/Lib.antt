pub mod Parts
-- The promises: which records are of a kind, said without an order of tests, and how long their datagrams are.
pub mod Exactly
-- The same byte by byte.
pub mod Frames
