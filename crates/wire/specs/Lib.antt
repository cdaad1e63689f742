pub mod Numbers
pub mod Options
