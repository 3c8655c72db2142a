-- Which single nodes the proof of a part of a range is made of, as they are gathered.
use Rattle.std.proofs.Common.{◌≡◌, ⊎_elim, true, false, ℕ, ◌+◌, ◌-◌, ◌≤◌, Bool, List}
use Rattle.std.proofs.Common.{[], ◌∷◌, ◌++◌, length, filter, take, drop, sym, ◌∙◌, ap, ap₂, arith}
use Rattle.std.proofs.lemmas.Bool.{cases_Bool, leb-true, le-leb}
use Rattle.std.proofs.lemmas.List.{append_assoc, length-map, length-append, length-drop, length-take, map-append, take-append-drop}
use Rattle.std.proofs.lemmas.List.Elements.{filter-append}
use Rattle.std.specs.List.{take-map, drop-map}
use Rattle.merkle_forest.specs.Forest.{position}
use Rattle.merkle_forest.specs.Trees.{Located, end_of}
use Rattle.merkle_theory.specs.Plans.{inner_nodes, positions_of}
use Rattle.merkle_theory.specs.RangeCounts.{passing}
use Rattle.merkle_theory.specs.Ranges.{is_before, is_after}
use Rattle.merkle_theory.proofs.PartFolds.{fewer_after}

pub record IsPartPlan (start stop b a : ℕ) (peaks : List Located) (before after found : List ℕ) : Type 0 where
  pub nodes : found ≡ positions_of (drop b (filter (is_before start) peaks)
      ++ (take (passing (is_after stop) peaks - a) (filter (is_after stop) peaks) ++ inner_nodes start stop peaks))
  pub before_count : length before ≡ length (drop b (filter (is_before start) peaks))
  pub after_count : length after ≡ length (take (passing (is_after stop) peaks - a) (filter (is_after stop) peaks))

pub part_planned : (start stop b a cut : ℕ) (peaks : List Located) (fronts before backs after found : List ℕ)
    → fronts ≡ positions_of (filter (is_before start) peaks) → before ≡ drop b fronts
    → backs ≡ positions_of (filter (is_after stop) peaks) → cut ≡ length backs - a → after ≡ take cut backs
    → found ≡ (before ++ after) ++ positions_of (inner_nodes start stop peaks)
    → IsPartPlan start stop b a peaks before after found
part_planned start stop b a cut peaks fronts before backs after found fronts_are before_is backs_are cut_is after_is found_is =
    let at : Located → ℕ = λ n. position n.1 in
    let earlier = drop b (filter (is_before start) peaks) in
    let later = take (passing (is_after stop) peaks - a) (filter (is_after stop) peaks) in
    let one : before ≡ positions_of earlier =
    before_is ∙ ap (drop b) fronts_are ∙ drop-map at b (filter (is_before start) peaks) in
    let count : cut ≡ passing (is_after stop) peaks - a =
    cut_is ∙ ap (λ n. n - a) (ap length backs_are ∙ length-map (filter (is_after stop) peaks) at) in
    let two : after ≡ positions_of later =
    after_is ∙ ap₂ take count backs_are ∙ take-map at (passing (is_after stop) peaks - a) (filter (is_after stop) peaks) in
    record {
      nodes = found_is ∙ ap₂ (λ x y. (x ++ y) ++ positions_of (inner_nodes start stop peaks)) one two
          ∙ rw (map-append at earlier (later ++ inner_nodes start stop peaks), map-append at later (inner_nodes start stop peaks)) (simp append_assoc);
      before_count = ap length one ∙ length-map earlier at;
      after_count = ap length two ∙ length-map later at;
    }

-- fewer peaks stand before an earlier location
fewer_before : (own start : ℕ) (peaks : List Located) → own ≤ start → passing (is_before own) peaks ≤ passing (is_before start) peaks
fewer_before own start [] le = omega arith
fewer_before own start (peak ∷ peaks) le =
    let rest = fewer_before own start peaks le in
    ⊎_elim
    (λ (front : is_before own peak ≡ true). let later : is_before start peak ≡ true =
    le-leb (end_of peak) start (let it : end_of peak ≤ own = leb-true (end_of peak) own front in omega (arith, it, le)) in
    rw (front, later) (omega (arith, rest)))
    (λ (no : is_before own peak ≡ false). ⊎_elim (λ (later : is_before start peak ≡ true). rw (no, later) (omega (arith, rest)))
    (λ (none : is_before start peak ≡ false). rw (no, none) rest) (cases_Bool (is_before start peak)))
    (cases_Bool (is_before own peak))

-- how many of these digests are folded with others
pub record IsPartCount (own_start own_stop start stop k : ℕ) (peaks : List Located) : Type 0 where
  pub less : passing (is_before own_start) (take k peaks) ≤ passing (is_before start) (take k peaks)
  pub before_fits : passing (is_before start) (take k peaks) - passing (is_before own_start) (take k peaks)
      ≤ length (drop (passing (is_before own_start) (take k peaks)) (filter (is_before start) peaks))
  pub after_fits : passing (is_after stop) (take k peaks)
      ≤ length (take (passing (is_after stop) peaks - passing (is_after own_stop) (drop k peaks)) (filter (is_after stop) peaks))

halved : (test : Located → Bool) (k : ℕ) (peaks : List Located) → passing test peaks ≡ passing test (take k peaks) + passing test (drop k peaks)
halved test k peaks =
    ap length (ap (filter test) (sym (take-append-drop k peaks)) ∙ filter-append test (take k peaks) (drop k peaks))
    ∙ length-append (filter test (take k peaks)) (filter test (drop k peaks))

pub part_counts : (own_start own_stop start stop k : ℕ) (peaks : List Located) → own_start ≤ start → stop ≤ own_stop
    → IsPartCount own_start own_stop start stop k peaks
part_counts own_start own_stop start stop k peaks starts stops =
    let b = passing (is_before own_start) (take k peaks) in
    let a = passing (is_after own_stop) (drop k peaks) in
    record {
      less = fewer_before own_start start (take k peaks) starts;
      before_fits = omega (arith, length-drop b (filter (is_before start) peaks), halved (is_before start) k peaks);
      after_fits = omega (
        arith,
        length-take (passing (is_after stop) peaks - a) (filter (is_after stop) peaks),
        halved (is_after stop) k peaks,
        fewer_after own_stop stop (drop k peaks) stops,
      );
    }
