-- Working files of `jp_compiled`, which private clauses alone cite: nobody has to believe them.
pub mod OnlyFilter
