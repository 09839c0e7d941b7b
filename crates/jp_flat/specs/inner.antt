-- Working files of `jp_flat`, which private clauses alone cite: nobody has to believe them.
pub mod Above
pub mod Decimals
pub mod Filled
pub mod FlatAnswers
pub mod Plain
pub mod Nesting
pub mod Rows
pub mod Held
pub mod Placed
pub mod Printed
pub mod Without
