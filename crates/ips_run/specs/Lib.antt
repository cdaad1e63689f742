pub mod Calling
pub mod Run
pub mod Datagrams
pub mod Times
pub mod Demand
pub mod Kept
pub mod Settling
