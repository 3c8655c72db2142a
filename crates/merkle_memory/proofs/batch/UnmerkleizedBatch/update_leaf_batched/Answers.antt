use Rattle.std.proofs.Common.{◌≡◌, ◌+◌, ℕ, inl, inr, length, Option, Some, None, refl, sym, ◌∙◌, ap, ap₂, subst}
use Rattle.std.proofs.lemmas.Bool.{cases_lt}
use Rattle.merkle_core_parts.specs.Errors.{first_refused, IsRefusalOfUpdates}
use Rattle.merkle_core_parts.specs.Mem.{Additions, encoded}
use Rattle.merkle_core_parts.specs.Laws.Bounds.{first-refused}
use Rattle.merkle_memory.proofs.batch.UnmerkleizedBatch.update_leaf_batched.Goals as goal

is_none : (o : Option ℕ) → ((x : ℕ) → o ≡ Some x → ⊥) → o ≡ None
is_none None never = refl
is_none (Some x) never = absurd (never x refl)

pub returns-in-Some-clause-refused : goal.returns-in-Some-clause-refused
returns-in-Some-clause-refused g c =
    let rule = g.F.Family.merge_rule in
    let us = encoded g.D.Write.encoding c.args.updates.now in
    let count = c.args.self.base.leaves + length c.args.self.added in
    let boundary : c.new.result ≡ c.args.self.boundary =
    c.new.ensures ∙ ap (λ (b : Additions). b.boundary) c.self.view_is in
    let first : first_refused c.args.self.boundary count us ≡ Some c.in-Some.location =
    ap₂ (λ (b n : ℕ). first_refused b n us) (sym boundary) (sym c.leaves.ensures.leaves)
    ∙ sym (first-refused g.D.Write.encoding c.new.result c.leaves.result c.args.updates.now) ∙ sym c.in-Some.ensures in
    elim (cases_lt c.in-Some.location count) [
      | inl before ↦
          subst (IsRefusalOfUpdates rule c.args.self.boundary count us) (sym (c.refusal_at.ensures.pruned before))
          (c.in-Some.location, first, refl, before)
      | inr past ↦
          subst (IsRefusalOfUpdates rule c.args.self.boundary count us) (sym (c.refusal_at.ensures.past past)) (first, past)
    ]

pub returns-clause-within : goal.returns-clause-within
returns-clause-within g c =
    let us = encoded g.D.Write.encoding c.args.updates.now in
    let boundary : c.new.result ≡ c.args.self.boundary =
    c.new.ensures ∙ ap (λ (b : Additions). b.boundary) c.self.view_is in
    ap₂ (λ (b n : ℕ). first_refused b n us) (sym boundary) (sym c.leaves.ensures.leaves)
    ∙ sym (first-refused g.D.Write.encoding c.new.result c.leaves.result c.args.updates.now) ∙ sym c.first_out_of.ensures
    ∙ is_none c.first_out_of.result c.in_default.not-Some
