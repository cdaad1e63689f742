pub mod Survey
pub mod Places
