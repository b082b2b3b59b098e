-- assignment_solver.rs: the schedule state, check 12, and what build, update and slot list give and leave.
pub mod Bytes
pub mod BytesLaws
pub mod State
pub mod Calls
pub mod Answered
pub mod Good
pub mod Numbers
