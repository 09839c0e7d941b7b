pub mod Examples
pub mod inner
