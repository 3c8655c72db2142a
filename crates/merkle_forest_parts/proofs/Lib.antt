pub mod Lists
pub mod VarintWriting
pub mod Varints
