pub mod Bounds
pub mod Starting
pub mod Laying
pub mod Configuring
pub mod Offering
pub mod Lines
pub mod Examples
