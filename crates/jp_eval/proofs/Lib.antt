pub mod Gathered
pub mod Through
pub mod Leading
pub mod Listed
pub mod NumbersKept
pub mod Chains
pub mod Answering
pub mod Filtering
pub mod Idle
pub mod WalkSteps
pub mod OneNode
pub mod RouteSteps
pub mod CompiledParts
pub mod Uniformity
pub mod Answered
pub mod WorkItems
mod Crossing
mod Deciding
pub mod FilterCrosses
pub mod RootsUniform
