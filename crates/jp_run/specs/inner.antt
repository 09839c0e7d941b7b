-- Working files of `jp_run`, which private clauses alone cite: nobody has to believe them.
pub mod Answering
pub mod Ended
pub mod Going
pub mod Input
pub mod Jobs
pub mod Reading
pub mod Ready
pub mod Running
pub mod Serving
pub mod Standing
pub mod Turned
pub mod Turning
pub mod Wrote
