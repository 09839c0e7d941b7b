-- Working files of `jp_output`, which proofs and private clauses alone cite: nobody has to believe them.
pub mod Buffered
pub mod Fronts
pub mod Heads
pub mod SharedFields
pub mod Taken
