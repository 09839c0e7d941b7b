pub mod Keeping
pub mod Parts
pub mod Identity
pub mod Differing
pub mod Telling
pub mod SameLocations
pub mod Rooting
