-- The laws of hearing: `Passing` of the two passes over a control message, `Heard` of each way out.
pub mod Passing
pub mod Heard
