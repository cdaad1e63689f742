pub mod Files
pub mod Ways
-- The promises: every record of a file is found once and in order, in whatever pieces the file comes; what a file is, written out byte by byte; and
-- that it is refused by 25 and by 26 exactly when.
pub mod Whole
pub mod Exactly
pub mod Endings
pub mod Rows
pub mod Memory
pub mod Pieces
