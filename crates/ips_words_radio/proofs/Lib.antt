-- The laws of a radio control message and of a silence in words: `Parts` of one channel's words and of the endpoint's own, `Hearing` of the channels one after another,
-- `Heard` of all of them, `Datagrams` of what was read, and of the pacer's times.
pub mod Parts
pub mod Hearing
pub mod Heard
pub mod Datagrams
