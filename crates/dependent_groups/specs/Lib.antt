-- create_edge_groups of assignment_solver.rs, a dependent group.
pub mod Members
