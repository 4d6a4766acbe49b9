pub mod Placed
pub mod FromLast
pub mod Rows
pub mod Listed
pub mod Conflicting
pub mod Looked
