pub mod Build
pub mod Apply
pub mod Walk
