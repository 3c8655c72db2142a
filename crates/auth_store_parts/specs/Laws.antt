-- What holds of the definitions: lemmas, which a reader need not believe.
pub mod Lookups
pub mod Logs
pub mod Actives
pub mod Places
pub mod Staged
pub mod Floors
pub mod Below
pub mod Entries
pub mod Neighbours
pub mod Many
