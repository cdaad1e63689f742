-- The laws of the words: `Entries` and `Slots` of one channel's, `Whole` of all, `Pacers` of the pacer's.
pub mod Entries
pub mod Slots
pub mod Whole
pub mod Pacers
