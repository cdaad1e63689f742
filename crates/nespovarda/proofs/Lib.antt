pub mod Exporting
pub mod Handing
pub mod Showing
pub mod Numbers
pub mod Coincide
pub mod Whole
