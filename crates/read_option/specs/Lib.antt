pub mod Stated
pub mod Items
