pub mod Nodelist
pub mod Samples
pub mod Evaluated
pub mod Filter
pub mod Cuts
pub mod inner
