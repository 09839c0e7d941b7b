pub mod LineMarks
pub mod Marks
pub mod Pictures
pub mod Ignorable
pub mod OnLiterals
pub mod Traps
