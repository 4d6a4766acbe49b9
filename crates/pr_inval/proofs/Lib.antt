pub mod Merges
pub mod Aims
pub mod Bodies
