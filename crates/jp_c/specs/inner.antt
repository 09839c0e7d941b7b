-- Working files of `jp_c`, which private clauses alone cite: nobody has to believe them.
pub mod Refusals
