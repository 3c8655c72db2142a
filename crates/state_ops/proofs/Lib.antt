pub mod Fields
pub mod Told
