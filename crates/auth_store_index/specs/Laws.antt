-- What holds of the definitions: lemmas, which a reader need not believe.
pub mod Bits
pub mod Floors
pub mod Clears
pub mod Readings
pub mod Nexts
pub mod Touching
pub mod Commits
pub mod Prevs
pub mod Walks
pub mod Near
pub mod Told
pub mod Sourced
pub mod Refused
pub mod NearCode
