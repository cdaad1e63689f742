-- The laws of a run: `Places` of one channel among others, `Makes` of what each call comes to, `Steps` of one call, `Runs` of any sequence, `Counted` of its numbers
-- and windows, `Fresh` of those from a fresh start, `Kept` of number 19, `Pinned` of what is heard and queued in literal numbers.
pub mod Places
pub mod Makes
pub mod Steps
pub mod Runs
pub mod Counted
pub mod Fresh
pub mod Kept
pub mod Pinned
