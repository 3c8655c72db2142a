pub mod AnsweredLemmas
pub mod ProvingLemmas
pub mod RangeLemmas
pub mod WitnessLemmas
