pub mod Fronts
pub mod Places
pub mod Signs
pub mod Order
pub mod Limits
pub mod Texts
pub mod OnLiterals
