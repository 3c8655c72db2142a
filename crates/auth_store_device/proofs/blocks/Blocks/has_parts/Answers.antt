use Rattle.std.proofs.Common.{◌≡◌, ap, sym, ◌∙◌}
use Rattle.std.proofs.lemmas.Bool.{and_parts, and_from, eq-eqb, eqb-true}
use Rattle.std.proofs.lemmas.Slice.Eq.{slice_eq-Decides}
use Rattle.std.specs.Bool.{Decides}
use Rattle.auth_store_device.specs.BlocksCode.{image_in}
use Rattle.auth_store_device.specs.declared.blocks.Part.{Part}
use Rattle.auth_store_device.specs.contracts.blocks.PartPartialEq.TheImpl.{eq-value}
use Rattle.auth_store_device.proofs.blocks.Blocks.has_parts.Goals as goal

-- parts are compared field by field
same-part : (a b : Part) → Decides (eq-value.it a b) (a ≡ b)
same-part a b = (
  λ is.
      let first = and_parts _ _ is in
      let others = and_parts _ _ first.1 in
      ap (λ n. record { block = n; start = a.start; count = a.count }) (eqb-true a.block b.block first.0)
      ∙ ap (λ n. record { block = b.block; start = n; count = a.count }) (eqb-true a.start b.start others.0)
      ∙ ap (λ n. record { block = b.block; start = b.start; count = n }) (eqb-true a.count b.count others.1),
  λ same. and_from _ _ (eq-eqb a.block b.block (ap (λ (p : Part). p.block) same))
      (and_from _ _ (eq-eqb a.start b.start (ap (λ (p : Part). p.start) same)) (eq-eqb a.count b.count (ap (λ (p : Part). p.count) same))),
)

pub returns : goal.returns
returns c = λ is.
    let same = (slice_eq-Decides same-part c.parts.result.now c.args.parts.now c.eq.result c.eq.ensures).0 is in
    sym c.parts.ensures.bytes ∙ ap (image_in c.args.self.now.blocks) same
