-- The definitions of `jp_memory`.
pub mod Answered
pub mod inner
