mod Begins
mod Causes
mod Cuts
mod Doubts
mod Stays
mod Unpruned
