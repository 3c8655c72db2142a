pub mod Operation
pub mod Reading
pub mod Spans
pub mod Laws
