pub mod Xml
pub mod Tags
pub mod Pictures
pub mod Drawn
