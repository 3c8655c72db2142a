pub mod AtRest
pub mod Rests
pub mod Steps
