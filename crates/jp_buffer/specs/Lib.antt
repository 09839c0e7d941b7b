-- The definitions of `jp_buffer`.
pub mod Buffered
pub mod inner
