-- The words pinned by literal numbers: `WordsWithin` which words a state has and what they say, `Behind` which of them may hold anything, `Heard` which the radio
-- leaves, `Paced` which the pacer leaves and what a silence writes, `Configured` what a configuration's words say, `Runs` what holds of all words that calls reach.
pub mod WordsWithin
pub mod Behind
pub mod PacerWords
pub mod Heard
pub mod Paced
pub mod Configured
pub mod Runs
