pub mod Header
pub mod Readings
pub mod PlaneRows
