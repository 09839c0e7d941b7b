-- Working files of `jp_pattern`, which private clauses alone cite: nobody has to believe them.
pub mod Gives
pub mod Reading
