-- The definitions of `jp_compiled`.
pub mod Parts
pub mod Compiled
pub mod Filter
pub mod Uniform
pub mod inner
