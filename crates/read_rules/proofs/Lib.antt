-- A turn of a reader's loop, for any sort of message.
pub mod Turn
pub mod Taking
