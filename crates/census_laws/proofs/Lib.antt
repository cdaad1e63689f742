-- The promises: what a record adds to the counts, for any datagram by what the reader says of it, and in literal bytes.
pub mod Adds
pub mod Rows
