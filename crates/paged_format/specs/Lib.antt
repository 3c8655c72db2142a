pub mod Footers
pub mod Pages
pub mod Tips
pub mod Laws
