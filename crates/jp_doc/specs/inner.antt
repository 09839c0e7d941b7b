-- Working files of `jp_doc`, which private clauses alone cite: nobody has to believe them.
pub mod Added
pub mod Limits
