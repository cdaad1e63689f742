-- The simple channel, and that every channel equals it.
pub mod Exact
pub mod Limits
pub mod Alike
pub mod Entries
pub mod Agree
pub mod Leaves
pub mod Ledger
pub mod Fates
pub mod Account
pub mod Within
pub mod Silence
pub mod FlowCases
pub mod Lives
pub mod CallCases
