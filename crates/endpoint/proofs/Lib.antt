-- The laws of the calls on lent words: `Placing` to `Showing` are what the functions' proofs cite; `Leaving` to `Whole` are the promises.
pub mod Placing
pub mod Finding
pub mod Calling
pub mod Hearing
pub mod Showing
pub mod Leaving
pub mod Simulating
pub mod Refused
pub mod Other
pub mod Whole
