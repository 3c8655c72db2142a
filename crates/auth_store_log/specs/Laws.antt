-- What follows from the definitions. No reader has to believe it.
pub mod Records
pub mod Recorded
pub mod First
pub mod Floors
pub mod Once
pub mod Places
pub mod Shown
