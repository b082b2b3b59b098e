-- Whole runs of the preference search: that they are the search of SPEC 9, that their asks are few, and what they remember. Which lent bytes stand for the same search.
pub mod Run
pub mod Whole
pub mod MostAsks
pub mod MostAsksHold
pub mod Memory
pub mod Remembered
pub mod Alike
