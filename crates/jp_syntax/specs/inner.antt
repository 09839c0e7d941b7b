-- Working files of `jp_syntax`, which private clauses alone cite: nobody has to believe them.
pub mod Reading
