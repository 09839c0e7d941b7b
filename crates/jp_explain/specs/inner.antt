-- Working files of `jp_explain`, which private clauses alone cite: nobody has to believe them.
pub mod Cures
