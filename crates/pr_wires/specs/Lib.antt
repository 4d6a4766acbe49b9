pub mod BendLaws
pub mod Bends
pub mod Calls
pub mod Counters
pub mod Loops
pub mod Made
