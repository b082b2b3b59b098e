-- mip_flow.rs: the edges of the flow model and the buffers that hold them.
pub mod Edges
pub mod Index
pub mod IndexLaws
pub mod Stored
pub mod Lent
