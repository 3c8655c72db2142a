pub mod Updates
pub mod Found
pub mod Again
pub mod Encoded
