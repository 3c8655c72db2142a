pub mod WritersCode
pub mod Syncs
pub mod ShrinksCode
pub mod Completed
