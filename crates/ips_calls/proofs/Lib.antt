-- The laws of the calls on a state, and their promises.
pub mod Querying
pub mod Refused
pub mod Ran
pub mod Counted
pub mod Coincide
pub mod Exactly
pub mod Due
pub mod Pacing
pub mod Others
pub mod Own
pub mod Handed
