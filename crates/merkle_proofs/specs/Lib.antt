pub mod Extracted
pub mod ListDigests
pub mod PinnedSoundness
pub mod ProofStores
pub mod RangesCode
pub mod Reconstruction
