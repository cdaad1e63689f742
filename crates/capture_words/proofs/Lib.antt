-- The promise: what words that are taken say, in literal numbers.
pub mod Exactly
