-- Lemmas that crates above cite, and the laws of the traits.
pub mod Exclusion
pub mod Reading
pub mod Witness
