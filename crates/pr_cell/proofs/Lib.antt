pub mod Basics
mod Keeps
mod Takes
mod Puts
mod Seats
mod Ends
pub mod Pair
