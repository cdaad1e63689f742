-- The laws of the message: `Filling` of the tables, `Allowed` that it may be written.
pub mod Filling
pub mod Allowed
