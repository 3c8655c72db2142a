pub mod Growth
pub mod Readings
pub mod Sources
pub mod Refusals
pub mod Touched
pub mod Near
pub mod PlacesCode
pub mod Laws
