use Rattle.std.proofs.Common.{refl, sym, ◌∙◌}
use Rattle.std.proofs.lemmas.Map.Lookups.{exact_bytes}
use Rattle.state_proofs.proofs.exclusion.verifying.is_key.Goals as goal

pub returns-in-Equal : goal.returns-in-Equal
returns-in-Equal g c = (
  λ yes. exact_bytes (g.K.Key.bytes c.args.one.now) (g.K.Key.bytes c.args.other.now)
      (sym (g.met.K.Key.ordered c.args.one.now c.args.other.now) ∙ sym c.cmp.ensures ∙ c.in-Equal.is),
  λ same. refl,
)
