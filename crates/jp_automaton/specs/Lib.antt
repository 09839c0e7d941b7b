pub mod Expressions
pub mod Held
pub mod Letters
pub mod SameLanguage
pub mod Terms
pub mod inner
