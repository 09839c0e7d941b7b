-- Working files of `jp_automaton`, which private clauses alone cite: nobody has to believe them.
pub mod ByteSets
pub mod Dfa
pub mod Equivalence
pub mod Prefilter
pub mod Simpler
pub mod Simulation
pub mod SpanOrder
pub mod Spans
