-- assignment_solver.rs: the calls that build a schedule state, update it, and hand back a slot's list.
pub mod Carrying
pub mod Listing
pub mod Numbers
