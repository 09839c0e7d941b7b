pub mod OneMore
pub mod Standing
