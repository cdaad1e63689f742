pub mod Turns
pub mod Amounts
pub mod Readings
-- Whose message a record is, by its port.
pub mod Senders
-- The promises: each count is the smaller of 2^64 - 1 and what its records amount to; how the amounts belong together; refusal 1 never comes.
pub mod Totals
