-- Number 13 in plain numbers.
pub mod FixedHeader
