-- The laws of the survey: `Walking` of the pass over the channels, `Looking` of each way out.
pub mod Judging
pub mod Walking
pub mod Looking
