pub mod WordsWithin
pub mod RadioLeaves
pub mod ConfigurationSays
