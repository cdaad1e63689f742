pub mod Judging
pub mod Sorts
