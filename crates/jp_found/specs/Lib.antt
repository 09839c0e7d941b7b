pub mod Aggregates
pub mod Different
pub mod Identical
pub mod Kept
pub mod Links
pub mod RootAnswers
pub mod Ways
