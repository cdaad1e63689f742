pub mod Plain
pub mod Spelled
pub mod Free
pub mod Says
