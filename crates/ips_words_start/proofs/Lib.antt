-- The laws of a fresh start on words: `Starts` and `Judging` of the configuration's words, `Writing` of the words that are left, `Beginning` of the call, `FreshWords` of
-- what those words stand for, `Exactly` of when a start is refused.
pub mod Starts
pub mod Judging
pub mod Writing
pub mod Beginning
pub mod FreshWords
pub mod Exactly
