pub mod Records
pub mod Batches
pub mod Causes
pub mod Shown
pub mod Laws
