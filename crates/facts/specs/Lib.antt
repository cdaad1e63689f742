-- What every crate may speak of.
pub mod Tables
