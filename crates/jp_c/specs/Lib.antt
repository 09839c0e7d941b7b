-- The definitions of `jp_c`.
pub mod Asked
pub mod Buffers
pub mod Checked
pub mod Codes
pub mod Explained
pub mod Options
pub mod Told
pub mod inner
