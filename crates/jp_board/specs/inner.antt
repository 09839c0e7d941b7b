-- Working files of `jp_board`, which private clauses alone cite: nobody has to believe them.
pub mod Samples
