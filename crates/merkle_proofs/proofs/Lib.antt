pub mod HonestTold
pub mod ListDigests
pub mod StoreNodes
pub mod Stores
pub mod Extractions
mod GivenDigests
mod PartGiven
mod PartKnown
mod PartNodes
mod PinnedBeside
mod PinnedCover
mod PinnedHonest
mod PinnedMade
mod PinnedOneEach
mod PinnedSound
pub mod OneRank
pub mod HonestMany
