pub mod HeardWords
