pub mod Begun
pub mod Laws
