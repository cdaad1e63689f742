-- The laws of one channel of the radio's end: `Numbers` in numbers that never wrap, `Rows` in literal numbers, `Windows` of the test for a change.
pub mod Numbers
pub mod Rows
pub mod Windows
