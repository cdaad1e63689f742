pub mod Laws
pub mod Keywords
pub mod Tables
pub mod Places
