pub mod Zeros
pub mod Items
pub mod Digits
