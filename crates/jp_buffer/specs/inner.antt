-- Working files of `jp_buffer`, which private clauses alone cite: nobody has to believe them.
pub mod Waiting
