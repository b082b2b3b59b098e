-- assignment.rs: plans, check 13, a chooser's choices.
pub mod Plan
pub mod Calls
pub mod Answered
pub mod Laws
pub mod Inside
pub mod Rows
