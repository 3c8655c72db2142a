pub mod ChunkLeaves
pub mod Growth
pub mod Kept
pub mod Settled
