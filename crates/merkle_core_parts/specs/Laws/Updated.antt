-- The peaks of a tree whose leaves get other digests, made anew one after the other.
use Rattle.std.proofs.Common.{◌≡◌, ℕ, ◌+◌, ◌<◌, ◌≤◌, ◌⊎◌, inl, inr, Bool, true, false, cond, eqb, List, [], ◌∷◌, ◌++◌}
use Rattle.std.proofs.Common.{Option, Some, None, refl, sym, ◌∙◌, ap, ap₂, subst, arith, eq-eqb}
use Rattle.std.proofs.lemmas.Bool.{cases_lt, cases_eq, cond-true, cond-false, ne_eqb}
use Rattle.std.specs.Prelude.{IfSome, IsSome}
use Rattle.std.specs.Option.{option_map}
use Rattle.std.specs.List.{find}
use Rattle.merkle_forest.specs.Forest.{Tree, position, leaf_count, size, leaves, Rule, forest_of}
use Rattle.merkle_forest.specs.Nodes.{IsWithin, IsNodeAt, IsPeakAt}
use Rattle.merkle_forest.specs.Perfect.{IsPairing}
use Rattle.merkle_forest.specs.Laws.ForestGrowth.{leaves-forest_of}
use Rattle.merkle_forest.specs.Laws.Nodes.{peak-node, node-fits}
use Rattle.merkle_forest.specs.Laws.NodeGrowth.{one-node}
use Rattle.merkle_forest.specs.Laws.Peaks.{leaf_count-pos}
use Rattle.merkle_core_parts.specs.Mem.{Replacement, digest_at, value_after}
use Rattle.merkle_core_parts.specs.Laws.Rebuilt.{Digests, ArePending, IsRight, IsDone, IsRebuilt, within-node}

-- what stands after all peaks were made anew
pub record AreRebuilt (rule : Rule) (n : ℕ) (before after : Digests) (old new found : List Replacement) : Type 0 where
  pub right : IsRight rule n after new
  pub done : (f : ℕ) (t : Tree) → IsNodeAt f t (forest_of rule n) → IsDone before after new f t
  pub low : (p : ℕ) (x : List ℕ) → size (forest_of rule n) ≤ p → value_after new p x ≡ value_after old p x
  pub sound : (f : ℕ) (t : Tree) → IsNodeAt f t (forest_of rule n)
      → IfSome (digest_at found (position t)) (λ d. d ≡ after f t)

-- and after those that begin before a location were
pub record IsProgress (rule : Rule) (n boundary : ℕ) (before after : Digests) (end : ℕ)
    (old new found rest : List Replacement) : Type 0 where
  pub right : IsRight rule n after new
  pub done : (g : ℕ) (peak : Tree) → IsPeakAt g peak (forest_of rule n) → g < end → (f : ℕ) (t : Tree)
      → IsWithin f t g peak → IsDone before after new f t
  pub low : (p : ℕ) (x : List ℕ) → size (forest_of rule n) ≤ p → value_after new p x ≡ value_after old p x
  pub sound : (f : ℕ) (t : Tree) → IsNodeAt f t (forest_of rule n)
      → IfSome (digest_at found (position t)) (λ d. d ≡ after f t)
  pub pending : ArePending rule n boundary before after end rest

pub progress-start : (rule : Rule) (n boundary : ℕ) (before after : Digests) (old us : List Replacement)
    → IsRight rule n after old → ArePending rule n boundary before after 0 us
    → IsProgress rule n boundary before after 0 old old [] us
progress-start rule n boundary before after old us right pending = record {
  right = right;
  done = λ g peak stands lt. absurd (omega (arith, lt));
  low = λ p x le. refl;
  sound = λ f t stands. tt;
  pending = pending;
}

-- peaks stand one after the other
pub peaks-apart : (f g : ℕ) (t u : Tree) (peaks : List Tree) → IsPeakAt f t peaks → IsPeakAt g u peaks → f < g
    → f + leaf_count t ≤ g
peaks-apart f g t u [] one other lt = absurd one
peaks-apart f g t u (p ∷ ps) (inl one) (inl other) lt = absurd (omega (arith, one.0, other.0, lt))
peaks-apart f g t u (p ∷ ps) (inl one) (inr other) lt =
    absurd (omega (arith, one.0, lt, node-fits g u ps (peak-node g u ps other), leaf_count-pos u))
peaks-apart f g t u (p ∷ ps) (inr one) (inl other) lt =
    omega (arith, other.0, node-fits f t ps (peak-node f t ps one))
peaks-apart f g t u (p ∷ ps) (inr one) (inr other) lt = peaks-apart f g t u ps one other lt

-- a peak that begins before the end of another and not before it is that one
pub peak-same : (rule : Rule) → IsPairing rule → (n g first end p : ℕ) (peak t : Tree)
    → IsPeakAt first t (forest_of rule n)
    → end ≡ first + leaf_count t → IsPeakAt g peak (forest_of rule n) → first ≤ g → g < end
    → ((u : Tree) → IsPeakAt first u (forest_of rule n) → position u ≡ position t)
    → (g ≡ first) × (peak ≡ t)
peak-same rule pairs n g first end p peak t stands is other le lt one =
    elim (cases_lt first g) [
      | inl before ↦
          absurd (omega (arith, lt, is, peaks-apart first g t peak (forest_of rule n) stands other before))
      | inr none ↦
          (let at : g ≡ first = omega (arith, le, none) in
          let here : IsPeakAt first peak (forest_of rule n) = subst
          (λ k. IsPeakAt k peak (forest_of rule n)) at other in
          one-node rule pairs n n g first peak t (peak-node g peak (forest_of rule n) other)
          (peak-node first t (forest_of rule n) stands) (one peak here))
    ]

found_some : (found : List Replacement) (u : Replacement) (q : ℕ) → IsSome (digest_at found q)
    → digest_at (found ++ u ∷ []) q ≡ digest_at found q
found_some [] u q some = absurd (let bad : IsSome (digest_at [] q) = some in cc bad)
found_some (v ∷ found) u q some =
    elim (cases_eq v.0 q) [
      | inl same ↦
          ap (option_map (λ (one : Replacement). one.1))
          (cond-true (eqb v.0 q) (Some v) (find (λ one. eqb one.0 q) (found ++ u ∷ []))
          (eq-eqb v.0 q same))
          ∙ sym (ap (option_map (λ (one : Replacement). one.1))
          (cond-true (eqb v.0 q) (Some v) (find (λ one. eqb one.0 q) found)
          (eq-eqb v.0 q same)))
      | inr apart ↦
          (let left : digest_at (v ∷ found) q ≡ digest_at found q =
          ap (option_map (λ (one : Replacement). one.1))
          (cond-false (eqb v.0 q) (Some v) (find (λ one. eqb one.0 q) found)
          (ne_eqb v.0 q apart)) in
          ap (option_map (λ (one : Replacement). one.1))
          (cond-false (eqb v.0 q) (Some v) (find (λ one. eqb one.0 q) (found ++ u ∷ []))
          (ne_eqb v.0 q apart))
          ∙ found_some found u q (subst (λ o. IsSome o) left some) ∙ sym left)
    ]

found_none : (found : List Replacement) (u : Replacement) (q : ℕ) → digest_at found q ≡ None
    → digest_at (found ++ u ∷ []) q ≡ cond (eqb u.0 q) (Some u.1) None
found_none [] u q none = own (eqb u.0 q) u
  where
    own : (b : Bool) (v : Replacement) → option_map (λ (one : Replacement). one.1) (cond b (Some v) None)
        ≡ cond b (Some v.1) None
    own true v = refl
    own false v = refl
found_none (v ∷ found) u q none =
    elim (cases_eq v.0 q) [
      | inl same ↦
          absurd (let some : digest_at (v ∷ found) q ≡ Some v.1 =
          ap (option_map (λ (one : Replacement). one.1))
          (cond-true (eqb v.0 q) (Some v) (find (λ one. eqb one.0 q) found)
          (eq-eqb v.0 q same)) in cc (some, none))
      | inr apart ↦
          (let left : digest_at (v ∷ found) q ≡ digest_at found q =
          ap (option_map (λ (one : Replacement). one.1))
          (cond-false (eqb v.0 q) (Some v) (find (λ one. eqb one.0 q) found)
          (ne_eqb v.0 q apart)) in
          ap (option_map (λ (one : Replacement). one.1))
          (cond-false (eqb v.0 q) (Some v) (find (λ one. eqb one.0 q) (found ++ u ∷ []))
          (ne_eqb v.0 q apart))
          ∙ found_none found u q (sym left ∙ none))
    ]

some_or_none : (o : Option (List ℕ)) → IsSome o ⊎ (o ≡ None)
some_or_none None = inr refl
some_or_none (Some x) = inl refl

-- what was found stays, and the new one is found
pub found-more : (found : List Replacement) (u : Replacement) (q : ℕ)
    → (digest_at (found ++ u ∷ []) q ≡ digest_at found q)
    ⊎ (digest_at (found ++ u ∷ []) q ≡ cond (eqb u.0 q) (Some u.1) None)
found-more found u q =
    elim (some_or_none (digest_at found q)) [
      | inl some ↦ inl (found_some found u q some)
      | inr none ↦ inr (found_none found u q none)
    ]

pub found-still : (found : List Replacement) (u : Replacement) (q : ℕ) → IsSome (digest_at found q)
    → IsSome (digest_at (found ++ u ∷ []) q)
found-still found u q some = subst (λ o. IsSome o) (sym (found_some found u q some)) some

pub found-new : (found : List Replacement) (u : Replacement) (q : ℕ) → u.0 ≡ q → IsSome (digest_at (found ++ u ∷ []) q)
found-new found u q same =
    elim (some_or_none (digest_at found q)) [
      | inl some ↦ found-still found u q some
      | inr none ↦
          subst (λ o. IsSome o) (sym (found_none found u q none
          ∙ cond-true (eqb u.0 q) (Some u.1) None (eq-eqb u.0 q same))) refl
    ]

sound_more : (rule : Rule) → IsPairing rule
    → (n : ℕ) (after : Digests) (found : List Replacement) (g f : ℕ) (u t : Tree)
    → IsNodeAt g u (forest_of rule n) → IsNodeAt f t (forest_of rule n)
    → IfSome (digest_at found (position t)) (λ d. d ≡ after f t)
    → (digest_at (found ++ (position u, after g u) ∷ []) (position t) ≡ digest_at found (position t))
    ⊎ (digest_at (found ++ (position u, after g u) ∷ []) (position t)
    ≡ cond (eqb (position u) (position t)) (Some (after g u)) None)
    → IfSome (digest_at (found ++ (position u, after g u) ∷ []) (position t)) (λ d. d ≡ after f t)
sound_more rule pairs n after found g f u t one other sound (inl same) =
    subst (λ o. IfSome o (λ d. d ≡ after f t)) (sym same) sound
sound_more rule pairs n after found g f u t one other sound (inr new) =
    elim (cases_eq (position u) (position t)) [
      | inl same ↦
          (let it = one-node rule pairs n n g f u t one other same in
          subst (λ o. IfSome o (λ d. d ≡ after f t))
          (sym (new ∙ cond-true (eqb (position u) (position t)) (Some (after g u)) None
          (eq-eqb (position u) (position t) same)))
          (ap₂ after it.0 it.1))
      | inr apart ↦
          subst (λ o. IfSome o (λ d. d ≡ after f t))
          (sym (new ∙ cond-false (eqb (position u) (position t)) (Some (after g u)) None
          (ne_eqb (position u) (position t) apart))) tt
    ]

progress_done : (rule : Rule) → IsPairing rule → (n boundary : ℕ) (before after : Digests) (first end p : ℕ) (u : Tree)
    (old mid new found us rest : List Replacement) (digest : List ℕ) → IsPeakAt first u (forest_of rule n)
    → ((v : Tree) → IsPeakAt first v (forest_of rule n) → position v ≡ position u)
    → end ≡ first + leaf_count u → IsProgress rule n boundary before after first old mid found us
    → IsRebuilt rule n boundary before after first u mid new digest (first + leaf_count u) rest
    → (g : ℕ) (peak : Tree) → IsPeakAt g peak (forest_of rule n) → g < end → (f : ℕ) (t : Tree)
    → IsWithin f t g peak → (g < first) ⊎ (first ≤ g) → IsDone before after new f t
progress_done rule pairs n boundary before after first end p u old mid new found us rest digest
    stands one is progress made g
    peak other lt f t within (inl old_one) =
    made.keeps f t (within-node f g t peak (forest_of rule n) within (peak-node g peak (forest_of rule n) other))
    (progress.done g peak other old_one f t within)
progress_done rule pairs n boundary before after first end p u old mid new found us rest digest
    stands one is progress made g
    peak other lt f t within (inr new_one) =
    let it = peak-same rule pairs n g first end p peak u stands is other new_one lt one in
    made.done f t (subst (λ k. IsWithin f t k u) it.0 (subst (λ v. IsWithin f t g v) it.1 within))

pub progress-step : (rule : Rule) → IsPairing rule
    → (n boundary : ℕ) (before after : Digests) (first end p : ℕ) (u : Tree)
    (old mid new found us rest : List Replacement) (digest : List ℕ) → IsPeakAt first u (forest_of rule n)
    → ((v : Tree) → IsPeakAt first v (forest_of rule n) → position v ≡ position u)
    → p ≡ position u → end ≡ first + leaf_count u → IsProgress rule n boundary before after first old mid found us
    → IsRebuilt rule n boundary before after first u mid new digest (first + leaf_count u) rest
    → IsProgress rule n boundary before after end old new (found ++ (p, digest) ∷ []) rest
progress-step rule pairs n boundary before after first end p u old mid new found us rest digest stands
    one at is progress made =
    let node = peak-node first u (forest_of rule n) stands in
    subst (λ k. IsProgress rule n boundary before after end old new (found ++ (k, digest) ∷ []) rest) (sym at)
    (subst (λ d. IsProgress rule n boundary before after end old new (found ++ (position u, d)
    ∷ []) rest) (sym made.value)
    (record {
      right = made.right;
      done =
          λ g peak other lt f t within. progress_done rule pairs n boundary before after first end p u old mid new found
          us rest digest stands one is progress made g peak other lt f t within (cases_lt g first);
      low = λ q x le. made.low q x le ∙ progress.low q x le;
      sound = λ f t here. sound_more rule pairs n after found first f u t node here (progress.sound f t here)
          (found-more found (position u, after first u) (position t));
      pending = subst (λ k. ArePending rule n boundary before after k rest) (sym is) made.pending;
    }))

-- a node stands within a peak
within_peak : (f : ℕ) (t : Tree) (peaks : List Tree) → IsNodeAt f t peaks
    → (g : ℕ) × (peak : Tree) × IsPeakAt g peak peaks × IsWithin f t g peak
within_peak f t [] stands = absurd stands
within_peak f t (p ∷ ps) (inl within) = (leaves ps, p, inl (refl, refl), within)
within_peak f t (p ∷ ps) (inr stands) =
    let it = within_peak f t ps stands in (it.0, it.1, inr it.2, it.3)

pub progress-all : (rule : Rule) → IsPairing rule → (n boundary : ℕ) (before after : Digests) (end : ℕ)
    (old new found rest : List Replacement) → n ≤ end → IsProgress rule n boundary before after end old new found rest
    → AreRebuilt rule n before after old new found
progress-all rule pairs n boundary before after end old new found rest le progress = record {
  right = progress.right;
  done = λ f t stands.
      (let it = within_peak f t (forest_of rule n) stands in
      progress.done it.0 it.1 it.2
      (omega (
        arith,
        le,
        leaf_count-pos it.1,
        leaves-forest_of rule pairs n,
        node-fits it.0 it.1 (forest_of rule n) (peak-node it.0 it.1 (forest_of rule n) it.2),
      )) f t it.3);
  low = progress.low;
  sound = progress.sound;
}
