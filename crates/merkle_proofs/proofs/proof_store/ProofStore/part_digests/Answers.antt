use Rattle.std.proofs.Common.{rules, ◌≡◌, ℕ, ◌+◌, ◌-◌, List, ◌++◌, length, map, take, drop, Some, None, sym, ◌∙◌, ap, ap₂, subst}
use Rattle.std.specs.List.{take-map, drop-map}
use Rattle.std.proofs.lemmas.List.{length-map, map-append, take_at, drop_at}
use Rattle.merkle_forest.specs.Forest.{forest_of}
use Rattle.merkle_forest.specs.Hashing.{folded_forward, folded_backward}
use Rattle.merkle_forest.specs.Trees.{Located}
use Rattle.merkle_theory.specs.Assembled.{assembled}
use Rattle.merkle_theory.specs.MadeRoots.{peaks_of}
use Rattle.std.specs.Prelude.{IfErr}
use Rattle.std.proofs.lemmas.Result.{err_from_is_err_and}
use Rattle.merkle_theory.specs.Plans.{Lookup, first_missing, positions_of, inner_nodes}
use Rattle.merkle_proofs.specs.ProofStores.{IsRefusalToBuildPart, digest_among, part_nodes, more_before, more_after, front_peaks, back_peaks}
use Rattle.merkle_theory.specs.RangeCounts.{passing}
use Rattle.merkle_theory.specs.Ranges.{is_before, is_after, as_one, singly}
use Rattle.merkle_theory.proofs.HonestRoots.{ascend_located}
use Rattle.merkle_theory.proofs.PartFolds.{part_is}
use Rattle.merkle_proofs.proofs.PartKnown.{part_known, part_refused}
use Rattle.merkle_theory.proofs.PlanDigests.{all_known}
use Rattle.merkle_proofs.proofs.proof_store.ProofStore.part_digests.Goals as goal

pub returns-in_err-nodes-clause-refused : goal.returns-in_err-nodes-clause-refused
returns-in_err-nodes-clause-refused g c =
    let rule = g.F.Family.merge_rule in
    let enc = g.D.Write.encoding in
    let now = c.args.self.now in
    let known : Lookup = digest_among enc now.nodes in
    let at : c.deref.result.now ≡ positions_of (part_nodes rule now c.args.start c.args.stop) = c.deref.ensures.value ∙ c.in_ok-plan.ensures.0 in
    let p = err_from_is_err_and c.from_residual-in_err-nodes.result c.from_residual-in_err-nodes.ensures.1 in
    subst (λ r. IfErr r (λ e. IsRefusalToBuildPart rule enc now c.args.start c.args.stop e)) (sym p.1)
    (subst (λ e. IsRefusalToBuildPart rule enc now c.args.start c.args.stop e) (sym p.2)
    (part_refused rule enc now c.args.start c.args.stop c.deref.result.now c.in_err-nodes.field-0.0 c.requires.part at
    (c.in_err-nodes.ensures.refused known (search rules))))

pub returns-clause-known : goal.returns-clause-known
returns-clause-known g c =
    let rule = g.F.Family.merge_rule in
    let known : Lookup = digest_among g.D.Write.encoding c.args.self.now.nodes in
    let at : c.deref.result.now ≡ positions_of (part_nodes rule c.args.self.now c.args.start c.args.stop) =
    c.deref.ensures.value ∙ c.in_ok-plan.ensures.0 in
    subst (λ ps. first_missing known ps ≡ None) at
    (all_known known (map g.D.Write.encoding c.in_ok-nodes.nodes.items) c.deref.result.now (c.in_ok-nodes.ensures.found known (search rules)))

pub returns-clause-digests : goal.returns-clause-digests
returns-clause-digests g c digest singles of folds =
    let rule = g.F.Family.merge_rule in
    let hash = g.H.Hasher.hash_of in
    let enc = g.D.Write.encoding in
    let bagging = g.H.Hasher.bagging_of c.args.hasher.now in
    let now = c.args.self.now in
    let start = c.args.start in
    let stop = c.args.stop in
    let peaks = peaks_of rule now.leaves in
    let known : Lookup = digest_among enc now.nodes in
    let at : c.deref.result.now ≡ positions_of (part_nodes rule now start stop) = c.deref.ensures.value ∙ c.in_ok-plan.ensures.0 in
    let nodes = c.in_ok-nodes.nodes.items in
    let found : map (λ d. Some d) (map enc nodes) ≡ map known (positions_of (part_nodes rule now start stop)) =
    c.in_ok-nodes.ensures.found known (search rules) ∙ ap (map known) at in
    let all : map enc nodes ≡ singly digest (part_nodes rule now start stop) = part_known rule digest known now start stop of (map enc nodes) found in
    let before = more_before rule now start in
    let after = more_after rule now stop in
    let inner = inner_nodes start stop peaks in
    let D : List Located → List (List ℕ) = singly digest in
    let parts : map enc nodes ≡ D before ++ (D after ++ D inner) =
    all ∙ map-append _ before (after ++ inner) ∙ ap (λ ds. D before ++ ds) (map-append _ after inner) in
    let nb = c.in_ok-plan.plan.before in
    let na = c.in_ok-plan.plan.after in
    let before_count : length (D before) ≡ nb = length-map before (λ (p : Located). digest p.0 p.1) ∙ sym c.in_ok-plan.ensures.1 in
    let after_count : length (D after) ≡ na = length-map after (λ (p : Located). digest p.0 p.1) ∙ sym c.in_ok-plan.ensures.2 in
    let one : map enc c.split_digests.result.0.now ≡ D before =
    ap (map enc) (c.split_digests.ensures.0 ∙ ap (take nb) c.deref-2.ensures.value) ∙ sym (take-map enc nb nodes) ∙ ap (take nb) parts
    ∙ take_at (D before) (D after ++ D inner) nb before_count in
    let rest : map enc c.split_digests.result.1.now ≡ D after ++ D inner =
    ap (map enc) (c.split_digests.ensures.1 ∙ ap (drop nb) c.deref-2.ensures.value) ∙ sym (drop-map enc nb nodes) ∙ ap (drop nb) parts
    ∙ drop_at (D before) (D after ++ D inner) nb before_count in
    let two : map enc c.split_digests-2.result.0.now ≡ D after =
    ap (map enc) c.split_digests-2.ensures.0 ∙ sym (take-map enc na c.split_digests.result.1.now) ∙ ap (take na) rest
    ∙ take_at (D after) (D inner) na after_count in
    let three : map enc c.split_digests-2.result.1.now ≡ D inner =
    ap (map enc) c.split_digests-2.ensures.1 ∙ sym (drop-map enc na c.split_digests.result.1.now) ∙ ap (drop na) rest
    ∙ drop_at (D after) (D inner) na after_count in
    let front = as_one (folded_forward hash) (D (front_peaks rule now)) in
    let back = as_one (folded_backward hash) (D (back_peaks rule now)) in
    let front_count : length now.front ≡ length front = sym (length-map now.front enc) ∙ ap length folds.front in
    let more = passing (is_before start) (take now.singles peaks) - length (front_peaks rule now) in
    let later = passing (is_after stop) (take now.singles peaks) in
    c.in_ok-fold_part.ensures
    ∙ ap₂ (λ n ds. assembled hash bagging (n + more) (ds ++ map enc c.split_digests.result.0.now) later
    (map enc c.split_digests-2.result.0.now ++ map enc now.back) (map enc c.split_digests-2.result.1.now)) front_count folds.front
    ∙ ap₂ (λ ds es. assembled hash bagging (length front + more) (front ++ ds) later (es ++ map enc now.back)
    (map enc c.split_digests-2.result.1.now)) one two
    ∙ ap₂ (λ es ds. assembled hash bagging (length front + more) (front ++ D before) later (D after ++ es) ds) folds.back three
    ∙ part_is hash digest now.start now.stop start stop c.requires.part.begins c.requires.part.ends peaks
    (ascend_located (forest_of rule now.leaves)) bagging now.inactive now.singles singles
