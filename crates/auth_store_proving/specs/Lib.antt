pub mod Proving
pub mod ProvingCode
pub mod Refusals
