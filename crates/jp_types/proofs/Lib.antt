pub mod FaultLaws
pub mod Fitting
pub mod Levels
pub mod Names
pub mod OnLiterals
pub mod WholeLiterals
pub mod WrittenNumbers
