pub mod Inserting
pub mod Laying
pub mod Rising
pub mod Asking
pub mod Gathering
pub mod Writing
