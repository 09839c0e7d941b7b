-- Working files of `jp_node`, which private clauses alone cite: nobody has to believe them.
pub mod Made
