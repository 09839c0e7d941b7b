pub mod Numbers
pub mod Functions
pub mod Kinds
pub mod Typing
pub mod Faults
pub mod Samples
