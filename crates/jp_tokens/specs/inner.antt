-- Working files of `jp_tokens`, which private clauses alone cite: nobody has to believe them.
pub mod DepthView
