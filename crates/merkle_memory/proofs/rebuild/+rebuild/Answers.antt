use Rattle.std.proofs.Common.{◌≡◌, ◌≤◌, ◌+◌, ◌-◌, ◌^◌, ℕ, suc, Some, drop, refl, sym, ◌∙◌, ap, subst, arith, rules}
use Rattle.std.proofs.lemmas.Result.{err_from_is_err_and}
use Rattle.std.specs.Prelude.{IfErr}
use Rattle.merkle_forest.specs.Forest.{leaf_count}
use Rattle.merkle_core_parts.specs.Layers.{known_at}
use Rattle.merkle_core_parts.specs.Mem.{node_count, encoded, IsKept}
use Rattle.merkle_core_parts.specs.Laws.Enough.{IsRefusalOfKept, AreKeptHalves, halves-kept, from-drop}
use Rattle.merkle_core_parts.specs.Laws.Replaced.{AreFrom}
use Rattle.merkle_core_parts.specs.Laws.Rebuilt.{IsDue, IsRebuilt, AreTaken}
use Rattle.merkle_core_parts.specs.Laws.PlaceCases.{place-fits, place-below, place-branch, place-halves, case-untouched}
use Rattle.merkle_core_parts.specs.Laws.PlaceCases.{case-leaf, case-branch, encoded-push}
use Rattle.merkle_memory.proofs.rebuild.+rebuild.Goals as goal

pub leaf_span-requires : goal.leaf_span-requires
leaf_span-requires g t c =
    (place-fits g.F.Family.merge_rule g.met.F.Family.merges_equals c.args.leaves c.args.place.first
    c.args.place.position c.args.place.height c.requires.few c.requires.place).0

pub overflow_add-place : goal.overflow_add-place
overflow_add-place g t c =
    omega (
      arith,
      (place-fits g.F.Family.merge_rule g.met.F.Family.merges_equals c.args.leaves c.args.place.first
          c.args.place.position c.args.place.height c.requires.few c.requires.place).1,
      c.leaf_span.ensures,
      c.requires.few,
    )

pub returns-in-Some-clause-rebuilt : goal.returns-in-Some-clause-rebuilt
returns-in-Some-clause-rebuilt g t c boundary before after tree setting pending right stands at =
    let encoding = g.H.Digest.Write.encoding in
    let found : (known_at g.F.Family.merge_rule c.args.base.now) c.args.place.position ≡ Some (encoding c.in-Some.digest) =
    ap (known_at g.F.Family.merge_rule c.args.base.now) (sym c.new.ensures) ∙ sym c.in-Some.ensures in
    case-untouched g.F.Family.merge_rule g.met.F.Family.merges_equals (g.H.Hasher.node_of c.args.hasher.now)
    c.args.leaves boundary (known_at g.F.Family.merge_rule c.args.base.now) before after setting c.args.place.first c.args.place.position
    c.args.place.height tree (encoded encoding c.args.changed.now.items)
    (drop c.args.next (encoded encoding c.args.updates.now)) (encoding c.in-Some.digest) c.requires.place stands at
    pending
    (λ due. absurd (let yes = c.if-not-is_due.ensures.due.1
    (subst (λ k. IsDue (c.args.place.first + k) (drop c.args.next (encoded encoding c.args.updates.now)))
    (sym c.leaf_span.ensures) due) in cc yes))
    found right

pub returns-in-None-clause-refused : goal.returns-in-None-clause-refused
returns-in-None-clause-refused g t c =
    c.refusal.ensures.refused (node_count g.F.Family.merge_rule c.args.leaves)
    (omega (
      arith,
      c.new-in-None.ensures,
      place-below g.F.Family.merge_rule g.met.F.Family.merges_equals c.args.leaves c.args.place.first
          c.args.place.position c.args.place.height c.requires.place,
    ))
    (search rules)

pub taken-digest-requires-clause-few : goal.taken-digest-requires-clause-few
taken-digest-requires-clause-few g t c =
    let fits = (place-fits g.F.Family.merge_rule g.met.F.Family.merges_equals c.args.leaves c.args.place.first
    c.args.place.position c.args.place.height c.requires.few c.requires.place).1 in
    omega (arith, ap (λ k. 2 ^ k) c.if-place-eq0.true, fits, c.requires.few)

pub returns-then-place-eq0-clause-rebuilt : goal.returns-then-place-eq0-clause-rebuilt
returns-then-place-eq0-clause-rebuilt g t c boundary before after tree setting pending right stands at =
    let encoding = g.H.Digest.Write.encoding in
    let us = drop c.args.next (encoded encoding c.args.updates.now) in
    let rest = drop c.taken-digest.result.1 (encoded encoding c.args.updates.now) in
    let digest = encoding c.taken-digest.result.0 in
    let first = c.args.place.first in
    let due : IsDue (first + c.leaf_span.result) us = c.if-not-is_due.ensures.due.0 refl in
    let one : first + c.leaf_span.result ≡ suc first =
    omega (arith, c.leaf_span.ensures, ap (λ k. 2 ^ k) c.if-place-eq0.true) in
    let taken : AreTaken first boundary us rest digest =
    c.taken-digest.ensures boundary pending.order pending.bound (subst (λ k. IsDue k us) one due) in
    subst (λ changed. IsRebuilt g.F.Family.merge_rule c.args.leaves boundary before after first tree
    (encoded encoding c.args.changed.now.items) changed digest (first + leaf_count tree) rest)
    (encoded-push encoding c.args.changed.now.items c.push.new.self.items c.args.place.position c.taken-digest.result.0
    c.in_ok-push.ensures.items)
    (case-leaf g.F.Family.merge_rule g.met.F.Family.merges_equals c.args.leaves boundary before after first
    c.args.place.position c.args.place.height tree (encoded encoding c.args.changed.now.items) us rest digest
    c.requires.place c.if-place-eq0.true stands at pending taken right)

pub child_positions-at_left-requires : goal.child_positions-at_left-requires
child_positions-at_left-requires g t c =
    place-branch g.F.Family.merge_rule c.args.leaves c.args.place.first c.args.place.position c.args.place.height
    c.requires.few c.requires.place (λ none. absurd (omega (arith, none, c.if-place-eq0.false)))

pub leaf_span-requires-2 : goal.leaf_span-requires-2
leaf_span-requires-2 g t c =
    omega (
      arith,
      (place-fits g.F.Family.merge_rule g.met.F.Family.merges_equals c.args.leaves c.args.place.first
          c.args.place.position c.args.place.height c.requires.few c.requires.place).0,
    )

pub overflow_add-right : goal.overflow_add-right
overflow_add-right g t c =
    let half = (place-halves g.F.Family.merge_rule g.met.F.Family.merges_equals c.args.leaves c.args.place.first
    c.args.place.position c.args.place.height c.child_positions-at_left.result.0 c.child_positions-at_left.result.1
    (c.args.place.first + c.leaf_span-2.result) c.requires.few c.requires.place
    (λ none. absurd (omega (arith, none, c.if-place-eq0.false))) c.child_positions-at_left.ensures
    (ap (λ k. c.args.place.first + k) c.leaf_span-2.ensures)).right in
    omega (
      arith,
      (place-fits g.F.Family.merge_rule g.met.F.Family.merges_equals c.args.leaves
          (c.args.place.first + c.leaf_span-2.result) c.child_positions-at_left.result.1 (c.args.place.height - 1)
          c.requires.few half).1,
      c.requires.few,
    )

pub rebuild-requires : goal.rebuild-requires
rebuild-requires g t c κs within =
    let place = (place-halves g.F.Family.merge_rule g.met.F.Family.merges_equals c.args.leaves c.args.place.first
    c.args.place.position c.args.place.height c.child_positions-at_left.result.0 c.child_positions-at_left.result.1
    (c.args.place.first + 2 ^ (c.args.place.height - 1)) c.requires.few c.requires.place
    (λ none. absurd (omega (arith, none, c.if-place-eq0.false))) c.child_positions-at_left.ensures refl).left in
    (omega (arith, c.decreases, c.if-place-eq0.false), (search rules, (search rules, (search rules, (c.requires.few, place)))))

pub rebuild-requires-2 : goal.rebuild-requires-2
rebuild-requires-2 g t c κs within =
    let place = (place-halves g.F.Family.merge_rule g.met.F.Family.merges_equals c.args.leaves c.args.place.first
    c.args.place.position c.args.place.height c.child_positions-at_left.result.0 c.child_positions-at_left.result.1
    (c.args.place.first + c.leaf_span-2.result) c.requires.few c.requires.place
    (λ none. absurd (omega (arith, none, c.if-place-eq0.false))) c.child_positions-at_left.ensures
    (ap (λ k. c.args.place.first + k) c.leaf_span-2.ensures)).right in
    (omega (arith, c.decreases, c.if-place-eq0.false), (search rules, (search rules, (search rules, (c.requires.few, place)))))

pub returns-clause-rebuilt : goal.returns-clause-rebuilt
returns-clause-rebuilt g t c boundary before after tree setting pending right stands at =
    let encoding = g.H.Digest.Write.encoding in
    let us = drop c.args.next (encoded encoding c.args.updates.now) in
    let middle = drop c.in_ok-one.middle (encoded encoding c.args.updates.now) in
    let rest = drop c.in_ok-other.after (encoded encoding c.args.updates.now) in
    let digest = encoding c.digest_of_branch-digest.result in
    let first = c.args.place.first in
    let due : IsDue (first + c.leaf_span.result) us = c.if-not-is_due.ensures.due.0 refl in
    subst (λ changed. IsRebuilt g.F.Family.merge_rule c.args.leaves boundary before after first tree
    (encoded encoding c.args.changed.now.items) changed digest (first + leaf_count tree) rest)
    (encoded-push encoding c.rebuild-2.new.changed.items c.push-2.new.self.items c.args.place.position
    c.digest_of_branch-digest.result c.in_ok-push-2.ensures.items)
    (case-branch g.F.Family.merge_rule g.met.F.Family.merges_equals (g.H.Hasher.node_of c.args.hasher.now)
    c.args.leaves boundary (known_at g.F.Family.merge_rule c.args.base.now) before after setting first c.args.place.position
    c.args.place.height c.child_positions-at_left.result.0 c.child_positions-at_left.result.1
    (first + c.leaf_span-2.result) tree (encoded encoding c.args.changed.now.items)
    (encoded encoding c.rebuild.new.changed.items) (encoded encoding c.rebuild-2.new.changed.items) us middle rest
    (encoding c.in_ok-one.one) (encoding c.in_ok-other.other) digest c.requires.few c.requires.place
    c.child_positions-at_left.ensures (ap (λ k. first + k) c.leaf_span-2.ensures)
    (λ none. absurd (omega (arith, none, c.if-place-eq0.false))) stands at pending
    (subst (λ k. IsDue (first + k) us) c.leaf_span.ensures due)
    (λ l here is. c.in_ok-one.ensures.rebuilt boundary before after l setting pending right here is)
    (λ r next fine here is. c.in_ok-other.ensures.rebuilt boundary before after r setting next fine here is)
    c.digest_of_branch-digest.ensures)

pub returns-in_err-one-clause-kept : goal.returns-in_err-one-clause-kept
returns-in_err-one-clause-kept g t c =
    let rule = g.F.Family.merge_rule in
    let us = encoded g.H.Digest.Write.encoding c.args.updates.now in
    let first = c.args.place.first in
    let due : IsDue (first + 2 ^ c.args.place.height) (drop c.args.next us) =
    subst (λ k. IsDue (first + k) (drop c.args.next us)) c.leaf_span.ensures (c.if-not-is_due.ensures.due.0 refl) in
    let halves : (b : ℕ) → b ≤ c.args.leaves → AreFrom b us
    → AreKeptHalves rule b c.child_positions-at_left.result.0 c.child_positions-at_left.result.1 =
    λ b le from. halves-kept rule g.met.F.Family.merges_equals c.args.leaves b first c.args.place.position
    c.args.place.height c.child_positions-at_left.result.0 c.child_positions-at_left.result.1 (drop c.args.next us)
    c.requires.few le c.requires.place (λ none. absurd (omega (arith, none, c.if-place-eq0.false)))
    c.child_positions-at_left.ensures (from-drop b c.args.next us from) due in
    let p = err_from_is_err_and c.from_residual-in_err-one.result c.from_residual-in_err-one.ensures.1 in
    subst (λ r. IfErr r (λ e. (b : ℕ) → b ≤ c.args.leaves → AreFrom b us → IsKept rule b c.args.place.position
    → IsRefusalOfKept rule b e)) (sym p.1)
    (λ b le from keeps. subst (IsRefusalOfKept rule b) (sym p.2)
    (c.in_err-one.ensures.kept b le from (halves b le from).left))

pub returns-in_err-other-clause-kept : goal.returns-in_err-other-clause-kept
returns-in_err-other-clause-kept g t c =
    let rule = g.F.Family.merge_rule in
    let us = encoded g.H.Digest.Write.encoding c.args.updates.now in
    let first = c.args.place.first in
    let due : IsDue (first + 2 ^ c.args.place.height) (drop c.args.next us) =
    subst (λ k. IsDue (first + k) (drop c.args.next us)) c.leaf_span.ensures (c.if-not-is_due.ensures.due.0 refl) in
    let halves : (b : ℕ) → b ≤ c.args.leaves → AreFrom b us
    → AreKeptHalves rule b c.child_positions-at_left.result.0 c.child_positions-at_left.result.1 =
    λ b le from. halves-kept rule g.met.F.Family.merges_equals c.args.leaves b first c.args.place.position
    c.args.place.height c.child_positions-at_left.result.0 c.child_positions-at_left.result.1 (drop c.args.next us)
    c.requires.few le c.requires.place (λ none. absurd (omega (arith, none, c.if-place-eq0.false)))
    c.child_positions-at_left.ensures (from-drop b c.args.next us from) due in
    let p = err_from_is_err_and c.from_residual-in_err-other.result c.from_residual-in_err-other.ensures.1 in
    subst (λ r. IfErr r (λ e. (b : ℕ) → b ≤ c.args.leaves → AreFrom b us → IsKept rule b c.args.place.position
    → IsRefusalOfKept rule b e)) (sym p.1)
    (λ b le from keeps. subst (IsRefusalOfKept rule b) (sym p.2)
    (c.in_err-other.ensures.kept b le from (halves b le from).right))
