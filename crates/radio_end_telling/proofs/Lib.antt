-- The laws of the calls: `Changing` of the state after a change, `Settling` of each way out of a call, `Told` of the radio's own side.
pub mod Changing
pub mod Settling
pub mod Told
