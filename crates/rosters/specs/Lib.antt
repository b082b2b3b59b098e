-- assignment.rs: rosters.
pub mod Calls
pub mod Answered
pub mod Rows
pub mod Filled
pub mod Laws
