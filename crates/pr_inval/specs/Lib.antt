pub mod Points
pub mod Messages
pub mod Merging
pub mod Targets
pub mod Standing
