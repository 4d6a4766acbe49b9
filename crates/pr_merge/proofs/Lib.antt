pub mod Times
pub mod Turns
pub mod Orders
pub mod Standing
pub mod Tournament
pub mod Phasing
pub mod Holding
