-- One channel's calls meet the rules of a channel's life.
pub mod Leaving
pub mod Message
pub mod OfferWays
pub mod NextWays
pub mod Again
pub mod ChannelRan
