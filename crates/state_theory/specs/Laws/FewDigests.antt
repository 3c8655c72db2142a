-- The honest proof of several leaves has at most as many digests as those of the first and of the last of them.
use Rattle.std.proofs.Common.{◌≡◌, ℕ, ◌+◌, ◌-◌, ◌<◌, ◌≤◌, ◌^◌, cond, Bool, true, false, inl, inr, List, [], ◌∷◌, ◌++◌}
use Rattle.std.proofs.Common.{length, take, drop, filter, refl, ◌∙◌, ap, subst, arith, length-append}
use Rattle.std.specs.List.{flat_map}
use Rattle.std.proofs.lemmas.Bool.{cases_lt, le-leb, lt-leb}
use Rattle.std.proofs.lemmas.List.Concat.{flat_map-cons}
use Rattle.merkle_forest.specs.declared.bagging.Bagging.{Bagging}
use Rattle.merkle_forest.specs.declared.bagging.Bagging.TheVariants.{BackwardFold}
use Rattle.merkle_forest.specs.Forest.{Tree, leaf, branch, leaf_count, Rule, forest_of}
use Rattle.merkle_forest.specs.Hashing.{Hash}
use Rattle.merkle_forest.specs.Laws.Peaks.{leaf_count-pos}
use Rattle.merkle_forest.specs.Trees.{Located, located}
use Rattle.merkle_theory.specs.Ranges.{Digests, before_digests, after_digests, inner_digests, meets, siblings}
use Rattle.merkle_theory.specs.Ranges.{range_digests}

-- where a tree meets a range
meets_yes : (start stop at : ℕ) (t : Tree) → start < at + leaf_count t → at < stop → meets start stop (at, t) ≡ true
meets_yes start stop at t low high = rw (lt-leb (at + leaf_count t) start low, lt-leb stop at high) refl

meets_before : (start stop at : ℕ) (t : Tree) → at + leaf_count t ≤ start → meets start stop (at, t) ≡ false
meets_before start stop at t le = rw (le-leb (at + leaf_count t) start le) refl

meets_after : (start stop at : ℕ) (t : Tree) → stop ≤ at → meets start stop (at, t) ≡ false
meets_after start stop at t le =
    elim (cases_lt start (at + leaf_count t)) [
      | inl lt ↦ rw (lt-leb (at + leaf_count t) start lt, le-leb stop at le) refl
      | inr past ↦ meets_before start stop at t past
    ]

module _ (digest : Digests) where
  -- how many digests beside a range a tree has
  abbrev beside : ℕ → ℕ → ℕ → Tree → ℕ
  beside start stop at t = length (siblings digest start stop at t)

  out : (start stop at : ℕ) (t : Tree) → meets start stop (at, t) ≡ false → beside start stop at t ≡ 1
  out start stop at (leaf p) is = ap (λ b. length (cond b [] (digest at (leaf p) ∷ []))) is
  out start stop at (branch p left right) is =
      ap (λ b. length (cond b (siblings digest start stop at left
      ++ siblings digest start stop (at + leaf_count left) right)
      (digest at (branch p left right) ∷ []))) is

  in_leaf : (start stop at p : ℕ) → meets start stop (at, leaf p) ≡ true → beside start stop at (leaf p) ≡ 0
  in_leaf start stop at p is = ap (λ b. length (cond b [] (digest at (leaf p) ∷ []))) is

  in_branch : (start stop at p : ℕ) (left right : Tree) → meets start stop (at, branch p left right) ≡ true
      → beside start stop at (branch p left right) ≡ beside start stop at left
      + beside start stop (at + leaf_count left) right
  in_branch start stop at p left right is =
      ap (λ b. length (cond b (siblings digest start stop at left
      ++ siblings digest start stop (at + leaf_count left) right)
      (digest at (branch p left right) ∷ []))) is
      ∙ length-append (siblings digest start stop at left) (siblings digest start stop (at + leaf_count left) right)

  module _ (start stop : ℕ) (some : start < stop) where
    abbrev first : ℕ → Tree → ℕ
    first at t = beside start (start + 1) at t

    abbrev last : ℕ → Tree → ℕ
    last at t = beside (stop - 1) stop at t

    abbrev all : ℕ → Tree → ℕ
    all at t = beside start stop at t

    -- a tree in the range has none
    inside : (at : ℕ) (t : Tree) → start ≤ at → at + leaf_count t ≤ stop → all at t ≡ 0
    inside at (leaf p) low high =
        in_leaf start stop at p (meets_yes start stop at (leaf p) (omega (arith, low)) (omega (arith, high)))
    inside at (branch p left right) low high =
        let one = leaf_count-pos left in
        let other = leaf_count-pos right in
        omega (
          arith,
          in_branch start stop at p left right
              (meets_yes start stop at (branch p left right) (omega (arith, low, one))
              (omega (arith, high, one, other))),
          inside at left low (omega (arith, high)),
          inside (at + leaf_count left) right (omega (arith, low)) (omega (arith, high)),
        )

    -- one that begins in it has at most those beside the last leaf
    by_last : (at : ℕ) (t : Tree) → start ≤ at → all at t ≤ last at t
    by_last at (leaf p) low =
        elim (cases_lt at stop) [
          | inl lt ↦ omega (arith, in_leaf start stop at p (meets_yes start stop at (leaf p) (omega (arith, low)) lt))
          | inr past ↦ omega (
            arith,
            out start stop at (leaf p) (meets_after start stop at (leaf p) past),
            out (stop - 1) stop at (leaf p) (meets_after
                (stop - 1) stop at (leaf p) past),
          )
        ]
    by_last at (branch p left right) low =
        let t : Tree = branch p left right in
        let one = leaf_count-pos left in
        elim (cases_lt at stop) [
          | inl lt ↦ (elim (cases_lt (stop - 1) (at + leaf_count t)) [
            | inl meet ↦ omega (
              arith,
              in_branch start stop at p left right (meets_yes start stop at t (omega (arith, low, one)) lt),
              in_branch (stop - 1) stop at p left right (meets_yes (stop - 1) stop at t meet lt),
              by_last at left low,
              by_last (at + leaf_count left) right (omega (arith, low)),
            )
            | inr past ↦ omega (arith, inside at t low (omega (arith, past, some)))
          ])
          | inr past ↦ omega (
            arith,
            out start stop at t (meets_after start stop at t past),
            out (stop - 1) stop at t (meets_after (stop - 1) stop at t past),
          )
        ]

    -- one that ends in it at most those beside the first
    by_first : (at : ℕ) (t : Tree) → at + leaf_count t ≤ stop → all at t ≤ first at t
    by_first at (leaf p) high =
        elim (cases_lt start (at + 1)) [
          | inl lt ↦ omega (arith, in_leaf start stop at p (meets_yes start stop at (leaf p) lt (omega (arith, high))))
          | inr past ↦ omega (
            arith,
            out start stop at (leaf p) (meets_before start stop at (leaf p) past),
            out start (start + 1) at (leaf p) (meets_before
                start (start + 1) at (leaf p) past),
          )
        ]
    by_first at (branch p left right) high =
        let t : Tree = branch p left right in
        let one = leaf_count-pos left in
        let other = leaf_count-pos right in
        elim (cases_lt start (at + leaf_count t)) [
          | inl lt ↦ (elim (cases_lt at (start + 1)) [
            | inl meet ↦ omega (
              arith,
              in_branch start stop at p left right (meets_yes start stop at t lt (omega (arith, high, one, other))),
              in_branch start (start + 1) at p left right (meets_yes start (start + 1) at t lt meet),
              by_first at left (omega (arith, high)),
              by_first (at + leaf_count left) right (omega (arith, high)),
            )
            | inr past ↦ omega (arith, inside at t (omega (arith, past)) high)
          ])
          | inr past ↦ omega (
            arith,
            out start stop at t (meets_before start stop at t past),
            out start (start + 1) at t (meets_before start (start + 1) at t past),
          )
        ]

    by_both : (at : ℕ) (t : Tree) → all at t ≤ first at t + last at t
    by_both at (leaf p) =
        elim (cases_lt start at) [
          | inl after ↦ omega (arith, by_last at (leaf p) (omega (arith, after)))
          | inr from ↦ (elim (cases_lt stop (at + 1)) [
            | inr to ↦ omega (arith, by_first at (leaf p) (omega (arith, to)))
            | inl beyond ↦ absurd (omega (arith, from, beyond, some))
          ])
        ]
    by_both at (branch p left right) =
        let t : Tree = branch p left right in
        elim (cases_lt start at) [
          | inl after ↦ omega (arith, by_last at t (omega (arith, after)))
          | inr from ↦ (elim (cases_lt stop (at + leaf_count t)) [
            | inr to ↦ omega (arith, by_first at t to)
            | inl beyond ↦ omega (
              arith,
              in_branch start stop at p left right (meets_yes start stop at t (omega (arith, beyond, some))
                  (omega (arith, from, some))),
              in_branch start (start + 1) at p left right (meets_yes start (start
                  + 1) at t (omega (arith, beyond, some)) (omega (arith, from))),
              in_branch (stop - 1) stop at p left right (meets_yes (stop
                  - 1) stop at t (omega (arith, beyond)) (omega (arith, from, some))),
              by_both at left,
              by_both (at + leaf_count left) right,
            )
          ])
        ]

    -- in the trees that meet the range
    inner_met : (from to : ℕ) (peak : Located) (peaks : List Located) → meets from to peak ≡ true
        → length (inner_digests digest from to (peak ∷ peaks))
        ≡ beside from to peak.0 peak.1 + length (inner_digests digest from to peaks)
    inner_met from to peak peaks is =
        ap (λ (b : Bool). length (flat_map (λ (x : Located). siblings digest from to x.0 x.1) (cond b (peak
        ∷ filter (meets from to) peaks)
        (filter (meets from to) peaks)))) is
        ∙ ap length (flat_map-cons (λ (x : Located). siblings digest from to x.0 x.1) peak
        (filter (meets from to) peaks))
        ∙ length-append (siblings digest from to peak.0 peak.1) (inner_digests digest from to peaks)

    inner_out : (from to : ℕ) (peak : Located) (peaks : List Located) → meets from to peak ≡ false
        → length (inner_digests digest from to (peak ∷ peaks)) ≡ length (inner_digests digest from to peaks)
    inner_out from to peak peaks is =
        ap (λ (b : Bool). length (flat_map (λ (x : Located). siblings digest from to x.0 x.1) (cond b (peak
        ∷ filter (meets from to) peaks)
        (filter (meets from to) peaks)))) is

    -- a tree that meets it
    one_more : (peak : Located) (peaks : List Located) → start < peak.0 + leaf_count peak.1 → peak.0 < stop
        → length (inner_digests digest start stop peaks)
        ≤ length (inner_digests digest start (start + 1) peaks) + length (inner_digests digest (stop - 1) stop peaks)
        → length (inner_digests digest start stop (peak ∷ peaks))
        ≤ length (inner_digests digest start (start + 1) (peak ∷ peaks))
        + length (inner_digests digest (stop - 1) stop (peak ∷ peaks))
    one_more peak peaks low high rest =
        let whole = inner_met start stop peak peaks (meets_yes start stop peak.0 peak.1 low high) in
        elim (cases_lt peak.0 (start + 1)) [
          | inl from ↦
              let one = inner_met start (start + 1) peak peaks (meets_yes start (start + 1) peak.0 peak.1 low from) in
              (elim (cases_lt (stop - 1) (peak.0 + leaf_count peak.1)) [
                | inl to ↦ omega (
                  arith,
                  whole,
                  one,
                  rest,
                  by_both peak.0 peak.1,
                  inner_met (stop - 1) stop peak peaks (meets_yes (stop - 1) stop peak.0 peak.1 to high),
                )
                | inr past ↦ omega (
                  arith,
                  whole,
                  one,
                  rest,
                  by_first peak.0 peak.1 (omega (arith, past, some)),
                  inner_out (stop - 1) stop peak peaks (meets_before (stop - 1) stop peak.0 peak.1 past),
                )
              ])
          | inr after ↦
              let none = inner_out start (start + 1) peak peaks (meets_after start (start + 1) peak.0 peak.1 after) in
              (elim (cases_lt (stop - 1) (peak.0 + leaf_count peak.1)) [
                | inl to ↦ omega (
                  arith,
                  whole,
                  none,
                  rest,
                  by_last peak.0 peak.1 (omega (arith, after)),
                  inner_met (stop - 1) stop peak peaks (meets_yes
                      (stop - 1) stop peak.0 peak.1 to high),
                )
                | inr past ↦ omega (
                  arith,
                  whole,
                  none,
                  rest,
                  inside peak.0 peak.1 (omega (arith, after)) (omega (arith, past, some)),
                  inner_out (stop - 1) stop peak peaks (meets_before (stop - 1) stop peak.0 peak.1 past),
                )
              ])
        ]

    inner_few : (peaks : List Located) → length (inner_digests digest start stop peaks)
        ≤ length (inner_digests digest start (start + 1) peaks) + length (inner_digests digest (stop - 1) stop peaks)
    inner_few [] = omega arith
    inner_few (peak ∷ peaks) =
        elim (cases_lt start (peak.0 + leaf_count peak.1)) [
          | inl low ↦ (elim (cases_lt peak.0 stop) [
            | inl high ↦ one_more peak peaks low high (inner_few peaks)
            | inr past ↦ omega (
              arith,
              inner_out start stop peak peaks (meets_after start stop peak.0 peak.1 past),
              inner_out start (start
                  + 1) peak peaks (meets_after start (start + 1) peak.0 peak.1 (omega (arith, past, some))),
              inner_out (stop - 1) stop peak peaks (meets_after (stop - 1) stop peak.0 peak.1 past),
              inner_few peaks,
            )
          ])
          | inr past ↦ omega (
            arith,
            inner_out start stop peak peaks (meets_before start stop peak.0 peak.1 past),
            inner_out start (start + 1) peak peaks (meets_before start (start + 1) peak.0 peak.1 past),
            inner_out (stop - 1) stop peak peaks (meets_before (stop
                - 1) stop peak.0 peak.1 (omega (arith, past, some))),
            inner_few peaks,
          )
        ]

  -- and with those of the trees before and after it
  pub range_few : (hash : Hash) (start stop : ℕ) (inactive active : List Located) → start < stop
      → length (range_digests hash digest BackwardFold start stop inactive active)
      ≤ length (range_digests hash digest BackwardFold start (start + 1) inactive active)
      + length (range_digests hash digest BackwardFold (stop - 1) stop inactive active)
  range_few hash start stop inactive active some =
      omega (
        arith,
        parts start stop,
        parts start (start + 1),
        parts (stop - 1) stop,
        inner_few start stop some inactive,
        inner_few start stop some active,
      )
    where
      parts : (from to : ℕ) → length (range_digests hash digest BackwardFold from to inactive active)
          ≡ length (before_digests hash digest BackwardFold from inactive active)
          + (length (after_digests hash digest BackwardFold to inactive active)
          + (length (inner_digests digest from to inactive) + length (inner_digests digest from to active)))
      parts from to =
          let before : List (List ℕ) = before_digests hash digest BackwardFold from inactive active in
          let after : List (List ℕ) = after_digests hash digest BackwardFold to inactive active in
          let one : List (List ℕ) = inner_digests digest from to inactive in
          let other : List (List ℕ) = inner_digests digest from to active in
          omega (
            arith,
            length-append ((before ++ after) ++ one) other,
            length-append (before ++ after) one,
            length-append before after,
          )

-- the law that the honest proof of one leaf has few digests
abbrev pub AreFew : Rule → Type 0
AreFew rule = (hash : Hash) (bagging : Bagging) (digest : Digests) (leaf_total inactive location : ℕ)
    → leaf_total ≤ 2 ^ 62 → location < leaf_total → inactive ≤ length (forest_of rule leaf_total)
    → length (range_digests hash digest bagging location (location + 1)
    (take inactive (located (forest_of rule leaf_total))) (drop inactive (located (forest_of rule leaf_total)))) ≤ 122

-- so has that of several
pub ranges_are_few : (rule : Rule) → AreFew rule → (hash : Hash) (digest : Digests) (leaf_total inactive start stop : ℕ)
    → leaf_total ≤ 2 ^ 62 → start < stop → stop ≤ leaf_total → inactive ≤ length (forest_of rule leaf_total)
    → length (range_digests hash digest BackwardFold start stop
    (take inactive (located (forest_of rule leaf_total))) (drop inactive (located (forest_of rule leaf_total)))) ≤ 244
ranges_are_few rule law hash digest leaf_total inactive start stop few some within enough =
    let before : List Located = take inactive (located (forest_of rule leaf_total)) in
    let after : List Located = drop inactive (located (forest_of rule leaf_total)) in
    let last : ℕ = stop - 1 in
    let end : last + 1 ≡ stop = omega (arith, some) in
    omega (
      arith,
      range_few digest hash start stop before after some,
      law hash BackwardFold digest leaf_total inactive start few (omega (arith, some, within)) enough,
      subst (λ (n : ℕ). length (range_digests hash digest BackwardFold last n before after) ≤ 122) end
          (law hash BackwardFold digest leaf_total inactive last few (omega (arith, some, within)) enough),
    )
