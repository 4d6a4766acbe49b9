pub mod Contained
pub mod Places
pub mod OneOf
