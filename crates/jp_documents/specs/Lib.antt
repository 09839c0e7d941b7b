-- The definitions of `jp_documents`.
pub mod Documents
pub mod Feeding
pub mod Whole
pub mod inner
