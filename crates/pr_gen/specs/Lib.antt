pub mod Draws
pub mod Topology
pub mod Workload
pub mod Summary
