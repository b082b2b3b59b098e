-- scoring.rs: the score of a plan.
pub mod Evaluate
pub mod Laws
