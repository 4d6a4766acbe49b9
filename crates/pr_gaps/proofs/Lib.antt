pub mod Joined
pub mod Covered
pub mod Sets
pub mod Least
