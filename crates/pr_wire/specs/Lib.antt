pub mod Spelling
pub mod Messages
pub mod Reading
pub mod Frames
pub mod Fronts
pub mod Feeding
pub mod Pieces
