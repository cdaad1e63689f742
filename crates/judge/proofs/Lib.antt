-- The turns of the loop, and the promise: what is printed is so of the file that was read.
pub mod Serving
pub mod Whole
