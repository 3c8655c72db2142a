use Rattle.std.proofs.Common.{◌≡◌, ℕ, ◌+◌, min, List, length, map, filter, take, drop, sym, ◌∙◌, ap, ap₂}
use Rattle.std.specs.List.{take-map, drop-map}
use Rattle.merkle_forest.specs.Hashing.{folded_forward, folded_backward}
use Rattle.merkle_forest.specs.Trees.{Located}
use Rattle.merkle_theory.specs.RangeCounts.{passing}
use Rattle.merkle_theory.specs.Ranges.{is_before, is_after, as_one, singly}
use Rattle.merkle_forest.specs.Forest.{forest_of}
use Rattle.merkle_forest.specs.Laws.Peaks.{located_from-zero}
use Rattle.merkle_theory.specs.MadeRoots.{from_left, peaks_of}
use Rattle.merkle_theory.proofs.HonestRoots.{ascend_located}
use Rattle.merkle_proofs.proofs.PartGiven.{folds_given}
use Rattle.merkle_theory.proofs.Places.{first_of}
use Rattle.merkle_proofs.proofs.proof_store.ProofStore.new.Goals as goal

pub peaks_from-peaks-requires-clause-begins : goal.peaks_from-peaks-requires-clause-begins
peaks_from-peaks-requires-clause-begins g c some = first_of g.F.Family.merge_rule g.met.F.Family.merges_equals c.as_u64-leaves.result some

pub returns-clause-singles : goal.returns-clause-singles
returns-clause-singles g c =
    let rule = g.F.Family.merge_rule in
    let inactive = c.args.proof.now.inactive_peaks in
    let bagging = g.H.Hasher.bagging_of c.args.hasher.now in
    let total : c.peaks_from-peaks.result ≡ length (peaks_of rule c.args.proof.now.leaves) =
    c.peaks_from-peaks.ensures.count ∙ ap length (located_from-zero (forest_of rule c.as_u64-leaves.result))
    ∙ ap (λ n. length (peaks_of rule n)) c.as_u64-leaves.ensures in
    c.folded_singly-singles.ensures ∙ ap (λ b. from_left b inactive c.peaks_from-peaks.result) c.root_bagging.ensures
    ∙ ap (from_left bagging inactive) total

pub folds_of-requires-clause-counted : goal.folds_of-requires-clause-counted
folds_of-requires-clause-counted g c =
    c.peaks_from-peaks.ensures.count ∙ ap length (located_from-zero (forest_of g.F.Family.merge_rule c.as_u64-leaves.result))

pub returns-clause-folds : goal.returns-clause-folds
returns-clause-folds g c digest honest =
    let rule = g.F.Family.merge_rule in
    let hash = g.H.Hasher.hash_of in
    let enc = g.D.Write.encoding in
    let bagging = g.H.Hasher.bagging_of c.args.hasher.now in
    let inactive = c.args.proof.now.inactive_peaks in
    let leaves = c.args.proof.now.leaves in
    let start = c.args.start in
    let stop = start + length c.args.elements.now in
    let peaks = peaks_of rule leaves in
    let k = from_left bagging inactive (length peaks) in
    let ds = map enc c.args.proof.now.digests.items in
    let same_leaves : c.as_u64-leaves.result ≡ leaves = c.as_u64-leaves.ensures in
    let k_is : c.folded_singly-singles.result ≡ k = returns-clause-singles g c in
    let it = folds_given hash digest bagging inactive start stop c.in-Ok.ensures.within.some peaks
    (ascend_located (forest_of rule leaves)) ds honest in
    let given : c.deref.result.now ≡ c.args.proof.now.digests.items = c.deref.ensures.value in
    let start_is : c.as_u64-3.result ≡ start = c.as_u64-3.ensures in
    let start_was : c.as_u64-2.result ≡ start = c.as_u64-2.ensures in
    let stop_is : c.as_u64.result + length c.args.elements.now ≡ stop = ap (λ n. n + length c.args.elements.now) c.as_u64.ensures in
    let n = c.as_u64-leaves.result in
    let m = c.folded_singly-singles.result in
    let at = c.as_u64-2.result in
    let end = c.as_u64.result + length c.args.elements.now in
    let xs = c.args.proof.now.digests.items in
    let Fronts : ℕ → ℕ → ℕ → List Located = λ l j s. filter (is_before s) (take j (peaks_of rule l)) in
    let Backs : ℕ → ℕ → ℕ → List Located = λ l j e. filter (is_after e) (drop j (peaks_of rule l)) in
    let Skipped : ℕ → ℕ → ℕ → ℕ → ℕ = λ l j s e. min 1 (passing (is_before s) (take j (peaks_of rule l)))
    + passing (is_after e) (take j (peaks_of rule l)) + passing (is_before s) (drop j (peaks_of rule l)) in
    let fronts : Fronts n m at ≡ Fronts leaves k start =
    ap (λ l. Fronts l m at) same_leaves ∙ ap (λ j. Fronts leaves j at) k_is ∙ ap (Fronts leaves k) start_was in
    let fronts_now : Fronts n m c.as_u64-3.result ≡ Fronts leaves k start =
    ap (λ l. Fronts l m c.as_u64-3.result) same_leaves ∙ ap (λ j. Fronts leaves j c.as_u64-3.result) k_is ∙ ap (Fronts leaves k) start_is in
    let backs : Backs n m end ≡ Backs leaves k stop =
    ap (λ l. Backs l m end) same_leaves ∙ ap (λ j. Backs leaves j end) k_is ∙ ap (Backs leaves k) stop_is in
    let skipped : Skipped n m at end ≡ Skipped leaves k start stop =
    ap (λ l. Skipped l m at end) same_leaves ∙ ap (λ j. Skipped leaves j at end) k_is
    ∙ ap₂ (λ s e. Skipped leaves k s e) start_was stop_is in
    let one : c.in-Ok-folds_of.folds.0.items ≡ take (min 1 (length (Fronts leaves k start))) xs =
    c.in-Ok-folds_of.ensures.front ∙ ap₂ (λ ps ds. take (min 1 (length ps)) ds) fronts given in
    let other : c.in-Ok-folds_of.folds.1.items ≡ take (min 1 (length (Backs leaves k stop))) (drop (Skipped leaves k start stop) xs) =
    c.in-Ok-folds_of.ensures.back
    ∙ ap₂ (λ ps ds. take (min 1 (length ps)) ds) backs (ap₂ drop skipped given) in
    record {
      front = ap (map enc) one ∙ sym (take-map enc (min 1 (length (Fronts leaves k start))) xs) ∙ it.front
          ∙ sym (ap (λ ps. as_one (folded_forward hash) (singly digest ps)) fronts_now);
      back = ap (map enc) other ∙ sym (take-map enc (min 1 (length (Backs leaves k stop))) (drop (Skipped leaves k start stop) xs))
          ∙ ap (take (min 1 (length (Backs leaves k stop)))) (sym (drop-map enc (Skipped leaves k start stop) xs)) ∙ it.back
          ∙ sym (ap (λ ps. as_one (folded_backward hash) (singly digest ps)) backs);
    }
