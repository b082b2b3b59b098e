-- What the exported entries give.
pub mod Constraints
pub mod ConstraintsLaws
pub mod Scores
pub mod ScoresLaws
pub mod Searches
pub mod Verdicts
pub mod Flags
