pub mod Digits
pub mod Flat
pub mod Document
pub mod Value
pub mod Members
pub mod Gathered
pub mod Structured
pub mod inner
