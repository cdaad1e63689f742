-- The account of an accepted message. The promises: in Control and Data, what is accepted, what it means, and that order, unused bits and skipped
-- options carry no meaning; in Own, that its options are unique; in Standing, that what is looked up stands there; in Examples, the starred rows;
-- in Verdicts, by which numbers a message is refused; in Places, at which place; in OnePlace, that no other place would do; in Refused, each number
-- exactly when; in PlainNumbers, the lists of types, lengths and values.
pub mod Lists
pub mod Seats
pub mod Body
pub mod Own
pub mod Standing
pub mod Cells
pub mod Outcome
pub mod Account
pub mod Shuffle
pub mod Tables
pub mod Ours
pub mod Control
pub mod Data
pub mod Examples
pub mod PlainNumbers
pub mod Places
pub mod Verdicts
pub mod OnePlace
pub mod Refused
pub mod Stated
