use Rattle.std.proofs.Common.{◌≡◌, false, length, map, option_map, sym, ◌∙◌, ap, subst, arith}
use Rattle.std.proofs.lemmas.List.{length-map}
use Rattle.std.proofs.lemmas.List.Sorted.{length_permutation}
use Rattle.std.specs.List.Sorted.{IsPermutation}
use Rattle.std.specs.Prelude.{MatchOption}
use Rattle.merkle_forest.specs.Made.{value}
use Rattle.merkle_theory.specs.MultiReads.{locations_of, can_be_shown, needed_positions, ranked, shown_root, AreNeeded}
use Rattle.merkle_theory.proofs.MultiRoots.{locations_same, root_cannot, root_uncounted, root_counted}
use Rattle.merkle_theory.proofs.PlanFolds.{if_ok}
use Rattle.merkle_theory.proofs.ShownRefusals.{ascending}
use Rattle.merkle_proofs.proofs.multi.root.reconstruct_shown.Goals as goal

pub returns-in_default : goal.returns-in_default
returns-in_default g c names over by =
    let rule = g.F.Family.merge_rule in
    let hash = g.H.Hasher.hash_of in
    let enc = g.H.Digest.Write.encoding in
    let it = c.args.proof.now in
    let elements = c.args.elements.now in
    let shown = map (λ e. (e.0.now, e.1)) elements in
    let digests = map enc it.digests.items in
    let bagging = g.H.Hasher.bagging_of c.args.hasher.now in
    let same : locations_of shown ≡ map (λ e. e.1) elements = locations_same (λ e. (e.0.now, e.1)) elements in
    let no : can_be_shown it.leaves (map (λ e. e.1) elements) ≡ false =
    subst (λ o. MatchOption o (can_be_shown it.leaves (map (λ e. e.1) elements) ≡ false)
    (λ positions. AreNeeded rule it.leaves (map
    (λ e. e.1) elements) positions.items)) c.in_default.is c.in_ok-positions.ensures in
    sym (ap (option_map (value hash)) (root_cannot names over bagging rule it.leaves it.inactive_peaks shown digests
    (ap (can_be_shown it.leaves) same ∙ no)))

pub returns-then-len : goal.returns-then-len
returns-then-len g c names over by =
    let rule = g.F.Family.merge_rule in
    let hash = g.H.Hasher.hash_of in
    let enc = g.H.Digest.Write.encoding in
    let it = c.args.proof.now in
    let elements = c.args.elements.now in
    let shown = map (λ e. (e.0.now, e.1)) elements in
    let digests = map enc it.digests.items in
    let bagging = g.H.Hasher.bagging_of c.args.hasher.now in
    let same : locations_of shown ≡ map (λ e. e.1) elements = locations_same (λ e. (e.0.now, e.1)) elements in
    let there : AreNeeded rule it.leaves (map (λ e. e.1) elements) c.in-Some.positions.items =
    subst (λ o. MatchOption o (can_be_shown it.leaves (map (λ e. e.1) elements) ≡ false)
    (λ positions. AreNeeded rule it.leaves (map
    (λ e. e.1) elements) positions.items)) c.in-Some.is c.in_ok-positions.ensures in
    let are = subst (λ ls. AreNeeded rule it.leaves ls c.in-Some.positions.items) (sym same) there in
    let many = length_permutation (needed_positions rule it.leaves
    (locations_of shown)) c.in-Some.positions.items are.all in
    sym (ap (option_map (value hash))
    (root_uncounted names over bagging rule it.leaves it.inactive_peaks shown digests are.can
    (λ equal. absurd (omega (
      arith,
      c.if-len.true,
      c.len.ensures,
      c.len-2.ensures,
      equal,
      many,
      length-map
          it.digests.items enc,
    )))))

pub root_from-requires-clause-elements : goal.root_from-requires-clause-elements
root_from-requires-clause-elements g c =
    let rule = g.F.Family.merge_rule in
    let it = c.args.proof.now in
    let elements = c.args.elements.now in
    let there : AreNeeded rule it.leaves (map (λ e. e.1) elements) c.in-Some.positions.items =
    subst (λ o. MatchOption o (can_be_shown it.leaves (map (λ e. e.1) elements) ≡ false)
    (λ positions. AreNeeded rule it.leaves (map
    (λ e. e.1) elements) positions.items)) c.in-Some.is c.in_ok-positions.ensures in
    ascending (λ e. e.1) 0 elements there.up

pub returns : goal.returns
returns g c names over by =
    let rule = g.F.Family.merge_rule in
    let hash = g.H.Hasher.hash_of in
    let enc = g.H.Digest.Write.encoding in
    let it = c.args.proof.now in
    let elements = c.args.elements.now in
    let shown = map (λ e. (e.0.now, e.1)) elements in
    let digests = map enc it.digests.items in
    let bagging = g.H.Hasher.bagging_of c.args.hasher.now in
    let same : locations_of shown ≡ map (λ e. e.1) elements = locations_same (λ e. (e.0.now, e.1)) elements in
    let there : AreNeeded rule it.leaves (map (λ e. e.1) elements) c.in-Some.positions.items =
    subst (λ o. MatchOption o (can_be_shown it.leaves (map (λ e. e.1) elements) ≡ false)
    (λ positions. AreNeeded rule it.leaves (map
    (λ e. e.1) elements) positions.items)) c.in-Some.is c.in_ok-positions.ensures in
    let are = subst (λ ls. AreNeeded rule it.leaves ls c.in-Some.positions.items) (sym same) there in
    let many = length_permutation (needed_positions rule it.leaves
    (locations_of shown)) c.in-Some.positions.items are.all in
    let counted : length digests ≡ length (needed_positions rule it.leaves (locations_of shown)) =
    omega (arith, c.if-len.false, c.len.ensures, c.len-2.ensures, many, length-map it.digests.items enc) in
    let root = root_counted names over bagging rule it.leaves it.inactive_peaks shown digests are.can counted in
    let all = subst (IsPermutation (needed_positions rule it.leaves (locations_of shown)))
    (sym c.deref.ensures.value) are.all in
    if_ok {P = λ found. option_map enc found
    ≡ option_map (value hash) (shown_root names over bagging rule it.leaves it.inactive_peaks shown
    (ranked (needed_positions rule it.leaves (locations_of shown)) digests))} c.root_from.result
    (λ found is. is ∙ ap (option_map (value hash)) (sym root))
    (c.root_from.ensures names over (needed_positions rule it.leaves (locations_of shown)) all by)
