pub mod Nodelists
pub mod OneField
pub mod RootText
pub mod Segments
