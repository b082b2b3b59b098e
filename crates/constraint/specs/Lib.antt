-- constraint.rs: kinds, operators, targets and extras with their numbers; negation.
pub mod Kind
pub mod Cases
pub mod Negation
pub mod Numbers
pub mod Answered
