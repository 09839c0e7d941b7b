pub mod Number
pub mod View
pub mod inner
