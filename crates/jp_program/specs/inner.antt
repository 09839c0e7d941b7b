-- Working files of `jp_program`, which private clauses alone cite: nobody has to believe them.
pub mod Invocation
pub mod Ended
pub mod Turn
