-- The laws of a fresh start of the radio's end on words: `Settings` of what a configuration's words say, `Walking`,
-- `Looking` and `Allowing` of 19 and 23, `Writing` of the words that are left, `Beginning` of the call, `Standing` of what those words stand for, `Exactly` of
-- when a start is refused, `Rows` of starts in numbers.
pub mod Settings
pub mod Walking
pub mod Looking
pub mod Allowing
pub mod Writing
pub mod Beginning
pub mod Standing
pub mod Exactly
pub mod Rows
