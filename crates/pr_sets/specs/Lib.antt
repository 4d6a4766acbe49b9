pub mod Spans
pub mod Sets
pub mod Ends
pub mod Joining
pub mod Text
