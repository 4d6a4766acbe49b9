pub mod Bytes
pub mod Extras
pub mod Plans
pub mod Tapes
