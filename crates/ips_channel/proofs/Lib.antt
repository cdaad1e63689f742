-- What a fresh channel is, written out.
pub mod Fresh
