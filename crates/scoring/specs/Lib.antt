-- scoring.rs and solution.rs: the calls.
pub mod Solution
pub mod Calls
pub mod Handed
pub mod Answered
pub mod Laws
