pub mod Serving
-- The promise: the counts that are printed are those of the file that was read.
pub mod Whole
