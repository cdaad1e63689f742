-- The promises of the answers of calls as they should be on a state.
pub mod Transcript
pub mod Given
pub mod Paced
pub mod Handed
pub mod Lasting
pub mod Stores
