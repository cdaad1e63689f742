-- The laws of the lists of types and of the tables, for the crates above; and what each status is.
pub mod Amongst
pub mod Tables
pub mod StatusKinds
