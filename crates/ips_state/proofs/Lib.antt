-- The laws of a state: its channels, where each and its store stand, its limits, its fresh start.
pub mod Channels
pub mod Places
pub mod WithinLimits
pub mod Fresh
