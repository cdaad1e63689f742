-- What the exports of the benchmark answer.
pub mod Digests
