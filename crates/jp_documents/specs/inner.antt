-- Working files of `jp_documents`, which private clauses alone cite: nobody has to believe them.
pub mod Finding
