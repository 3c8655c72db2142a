pub use Rattle.auth_store_parts.specs.Map
pub use Rattle.auth_store_parts.specs.Batch
pub use Rattle.auth_store_parts.specs.History
pub mod Store
pub mod Commits
pub mod Refusals
pub mod Laws
