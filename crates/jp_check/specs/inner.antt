-- Working files of `jp_check`, which private clauses alone cite: nobody has to believe them.
pub mod Making
pub mod Uniform
pub mod QuerySets
pub mod OneFilter
