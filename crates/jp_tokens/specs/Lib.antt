pub mod Reading
pub mod Gives
pub mod Depth
pub mod inner
