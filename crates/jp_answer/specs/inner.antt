-- Working files of `jp_answer`, which private clauses alone cite: nobody has to believe them.
pub mod Filtered
pub mod Gathering
pub mod Giving
