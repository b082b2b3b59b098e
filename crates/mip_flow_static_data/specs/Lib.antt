-- mip_flow_static_data.rs: node numbers and what each node supplies.
pub mod Nodes
