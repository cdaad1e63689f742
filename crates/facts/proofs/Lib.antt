-- Facts that no crate owns: of tests, of lists, and of tables.
pub mod Tests
pub mod Lists
pub mod Tables
