pub mod CommandLine
pub mod Inputs
pub mod Outcome
pub mod Printed
pub mod Split
pub mod Told
pub mod Wanted
pub mod inner
