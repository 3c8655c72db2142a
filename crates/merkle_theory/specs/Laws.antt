-- What follows from the definitions. No reader has to believe it.
pub mod HonestReads
pub mod MadeBags
pub mod MadeRoots
pub mod MadeTrees
pub mod Proofs
pub mod Sized
pub mod Sound
pub mod Values
