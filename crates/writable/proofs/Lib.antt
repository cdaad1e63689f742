-- The laws that the proofs of this crate share.
pub mod Fitting
pub mod Cells
pub mod PlainNumbers
