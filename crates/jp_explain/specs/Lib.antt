pub mod LineMark
pub mod Mark
pub mod PatternNotes
pub mod Picture
pub mod Slashes
pub mod inner
