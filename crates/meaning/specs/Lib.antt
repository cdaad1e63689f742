pub mod Kinds
pub mod Statuses
pub mod StatusKinds
