pub mod Merged
pub mod Heads
pub mod Phases
pub mod Holding
