pub mod Grammar
pub mod Tagging
pub mod Shapes
pub mod Groups
pub mod LineByLine
pub mod Whole
pub mod Answered
