pub mod Kept
pub mod Lists
-- The rules pinned a second time: what stood before a message, by the message that it comes from; and what a record comes to.
pub mod Before
pub mod Records
pub mod SeenRecords
-- Sessions in literal numbers.
pub mod Sessions
-- The promises: what is found of a channel after all records of a capture is what the papers say of the list of its accepted messages.
pub mod Whole
