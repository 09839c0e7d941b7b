pub mod Escapes
pub mod Literals
pub mod Scalars
