pub mod Codec
pub mod Errors
pub mod Laws
pub mod Lists
pub mod Varint
