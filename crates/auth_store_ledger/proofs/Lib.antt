pub mod Seen
pub mod Stores
pub mod Written
pub mod Pruning
pub mod Kept
pub mod Commits
pub mod Appends
pub mod Refused
