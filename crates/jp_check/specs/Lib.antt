pub mod Verdict
pub mod Plan
pub mod Filter
pub mod PlannedFilter
pub mod LiteralPatterns
pub mod Known
pub mod Samples
pub mod inner
