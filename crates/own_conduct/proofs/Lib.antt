pub mod Channel
pub mod Obeying
pub mod Runs
-- The promise: whatever is called, the endpoint's own session passes on every flow-controlled channel.
pub mod Own
