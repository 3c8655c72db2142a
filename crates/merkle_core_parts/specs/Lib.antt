pub mod Errors
pub mod Laws
pub mod Layers
pub mod Mem
