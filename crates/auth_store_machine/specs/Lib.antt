pub mod Commits
pub mod Machine
pub mod Reads
pub mod ReadsOn
pub mod Refusals
pub mod Sound
pub mod Standing
pub mod Stores
