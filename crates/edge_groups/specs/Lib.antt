-- assignment_solver.rs, create_edge_groups, and mip_flow.rs, create_edge_group_or_block_edges.
pub mod Names
pub mod Groups
pub mod Lent
pub mod Stored
pub mod Bounds
pub mod Together
pub mod Input
pub mod Grouping
pub mod Laws
