pub mod Layers
pub mod Kinds
