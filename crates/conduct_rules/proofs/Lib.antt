-- The promises: the test is the papers' (`obeys_is`), a window counts modulo 2^32, and the rules by their numbers.
pub mod Exactly
pub mod Alike
pub mod Cases
