pub mod ToldWidths
mod Begun
