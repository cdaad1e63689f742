-- The laws of the calls: `Limits` of number 19, `Message` of what the message says, `Differs` of where it is written, `Exactly` and `Heard` of each
-- answer, `Kept` of the limits, `Fresh` of the message after a start, `Words` of words, `Rows` in literal bytes; `Places`, `Ordered` and `Changed` serve them.
pub mod Places
pub mod Limits
pub mod Message
pub mod Differs
pub mod Ordered
pub mod Changed
pub mod Exactly
pub mod Heard
pub mod Kept
pub mod Fresh
pub mod Rows
pub mod Words
