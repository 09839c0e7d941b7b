pub mod Nodes
pub mod Digits
pub mod inner
