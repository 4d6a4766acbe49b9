pub mod Row
pub mod Pairs
pub mod Table
pub mod Listed
pub mod Conflicting
