-- The laws of the front door: `Showing` of what is shown, and how many words a state asks for; `Refused` of what a refusal leaves; `Ran` of any sequence of calls on words.
pub mod Showing
pub mod Refused
pub mod Ran
pub mod Started
