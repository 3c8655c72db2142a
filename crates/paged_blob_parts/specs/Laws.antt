-- What follows from the definitions. No reader has to believe it.
pub mod Moments
pub mod Chance
pub mod Writers
pub mod Durable
pub mod Flushes
