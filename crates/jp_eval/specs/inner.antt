-- Working files of `jp_eval`, which private clauses alone cite: nobody has to believe them.
pub mod Along
pub mod Base
pub mod Opened
pub mod Rooted
pub mod Walk
pub mod Finding
pub mod OneNode
pub mod Routes
