use Rattle.std.proofs.Common.{inl, inr, ⊎_elim}
use Rattle.state_proofs.proofs.WitnessLemmas.{witness_told}
use Rattle.state_proofs.proofs.laws.witnessed_roots_are_the_states_or_strings_collide.Goals as goal

pub returns : goal.returns
returns c setting state witness operations hash_sized sized root_sized same =
    ⊎_elim (λ told. inl told.root) inr (witness_told setting hash_sized state witness operations sized root_sized same)
