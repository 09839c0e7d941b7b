pub mod Literals
pub mod Comparison
pub mod Functions
pub mod Operands
pub mod Kinds
pub mod Ordered
pub mod RightTests
pub mod inner
