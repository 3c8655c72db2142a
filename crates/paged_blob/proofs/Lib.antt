pub mod Settled
pub mod CutWriter
pub mod CutWithin
pub mod Syncing
pub mod Recovered
mod Completed
