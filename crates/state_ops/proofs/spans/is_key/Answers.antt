use Rattle.std.proofs.Common.{refl, sym, ◌∙◌}
use Rattle.std.proofs.lemmas.Map.Lookups.{exact_bytes}
use Rattle.state_ops.proofs.spans.is_key.Goals as goal

pub returns-in-Equal : goal.returns-in-Equal
returns-in-Equal g c = (
  λ yes. exact_bytes (g.K.Write.encoding c.args.one.now) (g.K.Write.encoding c.args.other.now)
      (sym (g.met.K.FixedKey.in_order c.args.one.now c.args.other.now) ∙ sym c.cmp.ensures ∙ c.in-Equal.is),
  λ same. refl,
)
