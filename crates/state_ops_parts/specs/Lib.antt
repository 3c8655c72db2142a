pub mod Operation
pub mod Grammar
pub mod Text
pub mod Laws
