pub mod Exporting
pub mod Coincide
pub mod Numbers
pub mod Showing
pub mod Ran
pub mod Refused
