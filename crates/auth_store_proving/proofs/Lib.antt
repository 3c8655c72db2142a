pub mod Proofs
pub mod Absences
pub mod Answered
pub mod Refused
