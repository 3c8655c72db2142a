use Rattle.std.proofs.Common.{inl, inr, ⊎_elim}
use Rattle.state_proofs.proofs.WitnessLemmas.{witness_told, witness_is_honest}
use Rattle.state_proofs.proofs.laws.verified_witnesses_are_honest_or_strings_collide.Goals as goal

pub returns : goal.returns
returns c setting state witness operations hash_sized few sized low root_sized same =
    ⊎_elim (λ told. inl (witness_is_honest setting hash_sized state witness operations few sized low told)) inr
    (witness_told setting hash_sized state witness operations sized root_sized same)
