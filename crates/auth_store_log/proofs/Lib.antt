pub mod Found
pub mod Batches
pub mod Causes
pub mod Reading
pub mod Places
pub mod Openings
pub mod NamedBatches
