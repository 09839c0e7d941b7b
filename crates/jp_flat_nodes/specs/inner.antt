-- Working files of `jp_flat_nodes`, which private clauses alone cite: nobody has to believe them.
pub mod Reads
pub mod Laid
