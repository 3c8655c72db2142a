use Rattle.std.proofs.Common.{◌≡◌, ◌≤◌, ⊎_elim, [], true, false, map, length, Some, refl, sym, ◌∙◌, ap, arith}
use Rattle.std.proofs.lemmas.Bool.{cases_lt}
use Rattle.std.proofs.lemmas.List.{length-map}
use Rattle.merkle_forest.specs.Hashing.{root_of}
use Rattle.merkle_theory.specs.MadeRoots.{peaks_of}
use Rattle.merkle_theory.specs.MultiReads.{ranked}
use Rattle.merkle_theory.proofs.PeakReads.{peaks_from_start, root_absent, root_refused, root_there, so_many}
use Rattle.merkle_theory.proofs.Places.{first_of}
use Rattle.merkle_theory.proofs.ShownLists.{shown_all}
use Rattle.merkle_proofs.proofs.multi.root.root_from.Goals as goal

pub append_peaks-requires-clause-begins : goal.append_peaks-requires-clause-begins
append_peaks-requires-clause-begins g c some = first_of g.F.Family.merge_rule g.met.F.Family.merges_equals
    c.as_u64.result some

pub returns-then-not-branch : goal.returns-then-not-branch
returns-then-not-branch g c names over needed all by =
    let rule = g.F.Family.merge_rule in
    let hash = g.H.Hasher.hash_of in
    let enc = g.H.Digest.Write.encoding in
    let it = c.args.proof.now in
    let shown = map (λ e. (e.0.now, e.1)) c.args.elements.now in
    let known = ranked needed (map enc it.digests.items) in
    let bagging = g.H.Hasher.bagging_of c.args.hasher.now in
    let found = map enc c.append_peaks.new.found.items in
    let read = peaks_from_start hash enc over shown needed rule c.deref.result.now it.digests.items c.as_u64.result
    it.leaves
    (map enc c.new-peaks.result.items) found c.in_ok-append_peaks.field-0 false c.deref.ensures.value c.as_u64.ensures
    (ap (map enc) c.new-peaks.ensures.items) c.if-not-branch.true
    (c.in_ok-append_peaks.ensures over shown needed all by (sym (shown_all shown))) in
    sym (root_absent hash names over bagging rule it.leaves it.inactive_peaks shown known [] found read)

pub returns-in-Ok : goal.returns-in-Ok
returns-in-Ok g c names over needed all by =
    let rule = g.F.Family.merge_rule in
    let hash = g.H.Hasher.hash_of in
    let enc = g.H.Digest.Write.encoding in
    let it = c.args.proof.now in
    let shown = map (λ e. (e.0.now, e.1)) c.args.elements.now in
    let known = ranked needed (map enc it.digests.items) in
    let bagging = g.H.Hasher.bagging_of c.args.hasher.now in
    let found = map enc c.append_peaks.new.found.items in
    let read = peaks_from_start hash enc over shown needed rule c.deref.result.now it.digests.items c.as_u64.result
    it.leaves
    (map enc c.new-peaks.result.items) found c.in_ok-append_peaks.field-0 true c.deref.ensures.value c.as_u64.ensures
    (ap (map enc) c.new-peaks.ensures.items) c.if-not-branch.false
    (c.in_ok-append_peaks.ensures over shown needed all by (sym (shown_all shown))) in
    let many = so_many hash names over bagging rule it.leaves it.inactive_peaks shown known found read in
    let same : map enc c.deref-2.result.now ≡ found = ap (map enc) c.deref-2.ensures.value in
    let enough : it.inactive_peaks ≤ length (peaks_of rule it.leaves) =
    omega (arith, c.in-Ok.ensures.answered.0 refl, ap length same, length-map c.deref-2.result.now enc, many) in
    ap (λ d. Some d) (c.in-Ok.ensures.root ∙ ap (root_of hash bagging it.leaves it.inactive_peaks) same)
    ∙ sym (root_there hash names over bagging rule it.leaves it.inactive_peaks shown known found read enough)

pub returns : goal.returns
returns g c names over needed all by =
    let rule = g.F.Family.merge_rule in
    let hash = g.H.Hasher.hash_of in
    let enc = g.H.Digest.Write.encoding in
    let it = c.args.proof.now in
    let shown = map (λ e. (e.0.now, e.1)) c.args.elements.now in
    let known = ranked needed (map enc it.digests.items) in
    let bagging = g.H.Hasher.bagging_of c.args.hasher.now in
    let found = map enc c.append_peaks.new.found.items in
    let read = peaks_from_start hash enc over shown needed rule c.deref.result.now it.digests.items c.as_u64.result
    it.leaves
    (map enc c.new-peaks.result.items) found c.in_ok-append_peaks.field-0 true c.deref.ensures.value c.as_u64.ensures
    (ap (map enc) c.new-peaks.ensures.items) c.if-not-branch.false
    (c.in_ok-append_peaks.ensures over shown needed all by (sym (shown_all shown))) in
    let many = so_many hash names over bagging rule it.leaves it.inactive_peaks shown known found read in
    let same : map enc c.deref-2.result.now ≡ found = ap (map enc) c.deref-2.ensures.value in
    ⊎_elim (λ less. sym (root_refused hash names over bagging rule it.leaves it.inactive_peaks shown known less))
    (λ le. absurd (let no = c.in-Err.ensures.answered.1 (omega
    (arith, le, ap length same, length-map c.deref-2.result.now enc, many)) in cc))
    (cases_lt (length (peaks_of rule it.leaves)) it.inactive_peaks)
