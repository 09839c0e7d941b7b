pub mod CompiledViews
pub mod PatternSets
pub mod RootsListed
pub mod OneFilter
