-- The theorem of the joined ends, of what is linked.
pub mod Exported
