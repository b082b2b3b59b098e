-- assignment_solver.rs: the edges that a schedule blocks.
pub mod Blocks
pub mod BlocksLaws
