-- The round trip, for the crates above this one.
pub mod Adding
pub mod Tables
pub mod Control
pub mod Data
pub mod Answers
pub mod Returned
pub mod Canonical
pub mod Held
pub mod Shorter
pub mod HeldControl
pub mod HeldData
pub mod Writable
