-- What follows from the definitions. No reader has to believe it.
pub mod Begun
