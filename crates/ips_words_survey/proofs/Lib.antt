-- The laws of the survey: `Judging` of one channel's words, `Walking` of channels, `Surveying` of words, `Looking` of the tests before the pass, `Finding` of a place.
pub mod Judging
pub mod Walking
pub mod Surveying
pub mod Looking
pub mod Finding
