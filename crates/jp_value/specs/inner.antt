-- Working files of `jp_value`, which private clauses alone cite: nobody has to believe them.
pub mod Texts
