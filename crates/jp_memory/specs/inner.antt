-- Working files of `jp_memory`, which private clauses alone cite: nobody has to believe them.
pub mod Adding
pub mod Filtered
pub mod Input
pub mod Standing
