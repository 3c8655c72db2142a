pub mod Absent
pub mod Before
pub mod Encodings
pub mod Fields
pub mod Sound
pub mod Spans
pub mod Standing
pub use Rattle.auth_store_states.specs.Laws.Widths
