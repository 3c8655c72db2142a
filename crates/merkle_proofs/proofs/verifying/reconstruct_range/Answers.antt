use Rattle.std.proofs.Common.{◌≡◌, ℕ, ◌+◌, List, length, map, Option, option_map, sym, ◌∙◌, ap, arith}
use Rattle.std.proofs.lemmas.List.{length-map}
use Rattle.merkle_forest.specs.Made.{Made, value}
use Rattle.merkle_theory.specs.MadeTrees.{from}
use Rattle.merkle_theory.specs.MadeRoots.{peaks_of, read_root}
use Rattle.merkle_theory.specs.RangeCounts.{range_outer}
use Rattle.merkle_theory.proofs.RangeRoots.{range_there}
use Rattle.merkle_proofs.proofs.verifying.reconstruct_range.Goals as goal

pub returns-clause-root : goal.returns-clause-root
returns-clause-root g c names over by =
    let rule = g.F.Family.merge_rule in
    let hash = g.H.Hasher.hash_of in
    let bagging = g.H.Hasher.bagging_of c.args.hasher.now in
    let it = c.args.proof.now in
    let elements : List (List ℕ) = map (λ e. e.now) c.args.elements.now in
    let digests = map g.H.Digest.Write.encoding it.digests.items in
    let same_count : length elements ≡ length c.args.elements.now = length-map c.args.elements.now (λ e. e.now) in
    let Root : ℕ → Option Made = λ n. read_root names over bagging rule it.leaves it.inactive_peaks c.args.start (c.args.start + n)
    (from c.args.start elements) (range_outer bagging c.args.start (c.args.start + n) it.inactive_peaks (peaks_of rule it.leaves)) digests in
    rw (c.as_u64-leaves.ensures, c.as_u64-first.ensures, c.deref.ensures.value) at (c.root_over.ensures.root names over by)
    ∙ ap (λ n. option_map (value hash) (Root n)) (sym same_count)
    ∙ sym (ap (option_map (value hash)) (range_there names over bagging rule it.leaves it.inactive_peaks c.args.start elements digests
    (omega (arith, same_count, c.if-count-eq0.false))))
