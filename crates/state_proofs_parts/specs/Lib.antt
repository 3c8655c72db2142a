pub mod Errors
pub mod Snapshot
pub mod VerifierCode
pub mod Begun
