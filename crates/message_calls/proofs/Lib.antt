pub mod Calls
pub mod Coincide
pub mod Packets
pub mod Returned
pub mod Exact
