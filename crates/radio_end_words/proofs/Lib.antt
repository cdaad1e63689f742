-- The laws of the words: `Numbered` of channels one behind another, `Slots` of one channel's, `Whole` of all, `Placing` of where a channel stands and what is written.
pub mod Numbered
pub mod Slots
pub mod Whole
pub mod Placing
