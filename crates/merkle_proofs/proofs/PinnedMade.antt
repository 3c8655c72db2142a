-- Trees that are rebuilt from pinned digests, beside those of the list.
use Rattle.std.proofs.Common.{◌≡◌, ◌⊎◌, inl, inr, ⊎_elim, ℕ, suc, ◌+◌, ◌<◌, ◌≤◌, List, [], ◌∷◌, length, map, Option}
use Rattle.std.proofs.Common.{None, Some, IfSome, refl, sym, ◌∙◌, ap, ap₂, subst, arith}
use Rattle.std.specs.List.{AllByRecursion}
use Rattle.std.specs.Option.{option_map_or}
use Rattle.std.specs.Prelude.{◌==◌, unwrap_or}
use Rattle.std.proofs.lemmas.Bool.{eqb-true}
use Rattle.merkle_forest.specs.Forest.{Tree, leaf, branch, position, height, leaf_count, Rule, forest_of}
use Rattle.merkle_forest.specs.Hashing.{Hash, node_string, fold_string, folded_onto, folded_forward}
use Rattle.merkle_forest.specs.Laws.Matching.{Matches, Agrees}
use Rattle.merkle_forest.specs.Laws.NodeGrowth.{one-node}
use Rattle.merkle_forest.specs.Laws.Nodes.{peak-node, within-fits, node-fits}
use Rattle.merkle_forest.specs.Laws.Peaks.{leaf_count-pos}
use Rattle.merkle_forest.specs.Laws.Places.{node-left, node-right}
use Rattle.merkle_forest.specs.Made.{Made, bytes, value}
use Rattle.merkle_forest.specs.Nodes.{IsWithin, IsNodeAt, IsPeakAt}
use Rattle.merkle_forest.specs.Perfect.{IsPairing}
use Rattle.merkle_forest.specs.Trees.{Located, end_of, located}
use Rattle.merkle_theory.specs.Laws.HonestReads.{plain_children}
use Rattle.merkle_theory.specs.Laws.MadeTrees.{Sized, AllSized, choose, plain_fits, made_sized}
use Rattle.merkle_theory.specs.MadeRoots.{folded, peaks_of}
use Rattle.merkle_theory.specs.MadeTrees.{whole, plain_over, branch_made, made_tree}
use Rattle.merkle_theory.specs.MultiReads.{onto_of, as_bag}
use Rattle.merkle_theory.specs.Pinned.{at_peak, pinned_digest}
use Rattle.merkle_proofs.specs.PinnedSoundness.{pinned_made}
use Rattle.merkle_theory.specs.Plans.{Lookup}
use Rattle.merkle_theory.specs.Ranges.{Digests, singly}
use Rattle.merkle_theory.specs.Soundness.{plain_names}
use Rattle.merkle_theory.proofs.HonestRanges.{Ascend}
use Rattle.merkle_theory.proofs.Lookups.{IsNode, located_all}
use Rattle.merkle_theory.proofs.PeakMatches.{IsAlike, AreAlike}
use Rattle.merkle_theory.proofs.Pins.{at_here, at_later}

-- a digest that is there, or none is
pub either_digest : (o : Option (List ℕ)) → (o ≡ None) ⊎ ((d : List ℕ) × (o ≡ Some d))
either_digest None = inl refl
either_digest (Some d) = inr (d, refl)

-- peaks are apart
pub apart : (trees : List Tree) (f g : ℕ) (a b : Tree) → IsPeakAt f a trees → IsPeakAt g b trees
    → (leaf_count a ≡ leaf_count b) ⊎ ((f + leaf_count a ≤ g) ⊎ (g + leaf_count b ≤ f))
apart [] f g a b one other = absurd one
apart (t ∷ ts) f g a b (inl one) (inl other) = inl (ap leaf_count one.1 ∙ sym (ap leaf_count other.1))
apart (t ∷ ts) f g a b (inl one) (inr other) = inr (inr (omega (arith, one.0, node-fits g b ts (peak-node g b ts other))))
apart (t ∷ ts) f g a b (inr one) (inl other) = inr (inl (omega (arith, other.0, node-fits f a ts (peak-node f a ts one))))
apart (t ∷ ts) f g a b (inr one) (inr other) = apart ts f g a b one other

-- no peak stands in another one
not_inside : (trees : List Tree) (f g : ℕ) (a b : Tree) → IsPeakAt f a trees → IsPeakAt g b trees → g ≤ f → f + leaf_count a ≤ g + leaf_count b
    → leaf_count a < leaf_count b → ⊥
not_inside trees f g a b one other low high less =
    ⊎_elim (λ same. omega (arith, same, less))
    (λ sides. ⊎_elim (λ before. omega (arith, before, low, leaf_count-pos a)) (λ after. omega (arith, after, high, low, leaf_count-pos a)) sides)
    (apart trees f g a b one other)

-- what is pinned at a position stands there
at_found : (P : Located → Type 0) (peaks : List Located) (ds : List (List ℕ)) (p : ℕ) → AllByRecursion P peaks
    → IfSome (at_peak peaks ds p) (λ d. (n : Located) × P n × (position n.1 ≡ p))
at_found P [] ds p all = tt
at_found P (peak ∷ peaks) [] p all = tt
at_found P (peak ∷ peaks) (d ∷ ds) p all =
    choose (λ o. IfSome o (λ e. (n : Located) × P n × (position n.1 ≡ p))) (position peak.1 == p) (Some d) (at_peak peaks ds p)
    (λ is. (peak, all.0, eqb-true (position peak.1) p is)) (λ no. at_found P peaks ds p all.1)

at_sized : (size : ℕ) (peaks : List Located) (ds : List (List ℕ)) (p : ℕ) → AllSized size ds → IfSome (at_peak peaks ds p) (λ d. length d ≡ size)
at_sized size [] ds p all = tt
at_sized size (peak ∷ peaks) [] p all = tt
at_sized size (peak ∷ peaks) (d ∷ ds) p all =
    choose (λ o. IfSome o (λ e. length e ≡ size)) (position peak.1 == p) (Some d) (at_peak peaks ds p)
    (λ is. all.0) (λ no. at_sized size peaks ds p all.1)

if_there : {A : Type 0} (P : A → Type 0) (o : Option A) (x : A) → o ≡ Some x → IfSome o P → P x
if_there P o x is it = subst (λ z. IfSome z P) is it

-- no two of these peaks stand at one position
abbrev pub Distinct : List Located → Type 0
Distinct [] = Unit {0}
Distinct (n ∷ ns) = AllByRecursion (λ m. position n.1 ≡ position m.1 → ⊥) ns × Distinct ns

pub later_all : (at : ℕ) (ns : List Located) → Ascend at ns → AllByRecursion (λ m. at ≤ m.0) ns
later_all at [] up = tt
later_all at (n ∷ ns) up = (up.0, more ns (later_all (end_of n) ns up.1))
  where
    more : (ms : List Located) → AllByRecursion (λ m. end_of n ≤ m.0) ms → AllByRecursion (λ m. at ≤ m.0) ms
    more [] all = tt
    more (m ∷ ms) all = (omega (arith, up.0, all.0), more ms all.1)

pub distinct : (rule : Rule) → IsPairing rule → (count at : ℕ) (ns : List Located) → Ascend at ns → AllByRecursion (IsNode (forest_of rule count)) ns
    → Distinct ns
distinct rule pairs count at [] up all = tt
distinct rule pairs count at (n ∷ ns) up all =
    (others ns (later_all (end_of n) ns up.1) all.1, distinct rule pairs count (end_of n) ns up.1 all.1)
  where
    others : (ms : List Located) → AllByRecursion (λ m. end_of n ≤ m.0) ms → AllByRecursion (IsNode (forest_of rule count)) ms
        → AllByRecursion (λ m. position n.1 ≡ position m.1 → ⊥) ms
    others [] later nodes = tt
    others (m ∷ ms) later nodes = (
      (λ same. let one = one-node rule pairs count count n.0 m.0 n.1 m.1 all.0 nodes.0 same in
          omega (arith, one.0, later.0, leaf_count-pos n.1)),
      others ms later.1 nodes.1,
    )

-- where each pinned digest is that of its peak they are those of the peaks
pub each_pinned : (G : Digests) (peaks : List Located) (ds : List (List ℕ)) → length ds ≡ length peaks → Distinct peaks
    → AllByRecursion (λ n. (d : List ℕ) → at_peak peaks ds (position n.1) ≡ Some d → d ≡ G n.0 n.1) peaks → ds ≡ singly G peaks
each_pinned G [] [] long differ all = refl
each_pinned G [] (d ∷ ds) long differ all = absurd cc
each_pinned G (n ∷ ns) [] long differ all = absurd cc
each_pinned G (n ∷ ns) (d ∷ ds) long differ all =
    ap₂ (λ x xs. x ∷ xs) (all.0 d (at_here n ns d ds (position n.1) refl)) (each_pinned G ns ds (cc) differ.1 (others ns differ.0 all.1))
  where
    others : (ms : List Located) → AllByRecursion (λ m. position n.1 ≡ position m.1 → ⊥) ms
        → AllByRecursion (λ m. (e : List ℕ) → at_peak (n ∷ ns) (d ∷ ds) (position m.1) ≡ Some e → e ≡ G m.0 m.1) ms
        → AllByRecursion (λ m. (e : List ℕ) → at_peak ns ds (position m.1) ≡ Some e → e ≡ G m.0 m.1) ms
    others [] apart_from each = tt
    others (m ∷ ms) apart_from each =
        ((λ e is. each.0 e (at_later n ns d ds (position m.1) apart_from.0 ∙ is)), others ms apart_from.1 each.1)

module _ (hash : Hash) where
  or_value : (o : Option (List ℕ)) (m : Made) (d : List ℕ) → value hash m ≡ d → value hash (option_map_or bytes o m) ≡ unwrap_or o d
  or_value None m d same = same
  or_value (Some e) m d same = refl

  or_matches : (o : Option (List ℕ)) (m h : Made) → Matches hash m h → Matches hash (option_map_or bytes o m) h
  or_matches None m h matches = matches
  or_matches (Some e) m h matches = tt

  or_sized : (size : ℕ) (o : Option (List ℕ)) (m : Made) → IfSome o (λ d. length d ≡ size) → Sized hash size m
      → Sized hash size (option_map_or bytes o m)
  or_sized size None m known sized = sized
  or_sized size (Some e) m known sized = known

  none_or : (size : ℕ) (none : List ℕ) (o : Option (List ℕ)) → IfSome o (λ d. length d ≡ size) → length none ≡ size
      → length (unwrap_or o none) ≡ size
  none_or size none None known sized = sized
  none_or size none (Some e) known sized = known

  -- the value of what is made of the pinned digests
  pub value_pinned : (none : List ℕ) (known : Lookup) (at : ℕ) (t : Tree)
      → value hash (pinned_made none known at t) ≡ pinned_digest (λ p left right. hash (node_string p left right)) none known at t
  value_pinned none known at (leaf p) = refl
  value_pinned none known at (branch p left right) =
      or_value (known p) _ _
      (ap₂ (λ x y. hash (node_string p x y)) (value_pinned none known at left) (value_pinned none known (at + leaf_count left) right))

  -- the value of peaks that are folded from the left
  module _ (made : Located → Made) (digest : Digests) (same : (n : Located) → value hash (made n) ≡ digest n.0 n.1) (last : ℕ) where
    onto_value : (n : ℕ) (first : Made) (f : List ℕ) (peaks : List Located) → value hash first ≡ f
        → value hash (onto_of plain_names last (length (map made peaks)) n first (map made peaks)) ≡ folded_onto hash f (singly digest peaks)
    onto_value n first f [] is = is
    onto_value n first f (peak ∷ peaks) is =
        onto_value (suc n) (folded plain_names 1 n first (made peak)) (hash (fold_string f (digest peak.0 peak.1))) peaks (rw (is, same peak) refl)

    pub front_value : (peak : Located) (peaks : List Located)
        → value hash (as_bag plain_names last (length (map made (peak ∷ peaks))) (map made (peak ∷ peaks)))
        ≡ folded_forward hash (singly digest (peak ∷ peaks))
    front_value peak peaks = onto_value 2 (made peak) (digest peak.0 peak.1) peaks (same peak)

  module _ (size : ℕ) (hash_sized : (xs : List ℕ) → length (hash xs) ≡ size) (none : List ℕ) (none_sized : length none ≡ size)
      (elements : List (List ℕ))
      (peaks : List Located) (pinned : List (List ℕ)) (sized : AllSized size pinned) where
    abbrev known : Lookup
    known = at_peak peaks pinned

    abbrev E : ℕ → Tree → Made
    E = made_tree plain_over (whole elements)

    abbrev T : ℕ → Tree → Made
    T = pinned_made none known

    real_sized : (at : ℕ) (t : Tree) → Sized hash size (E at t)
    real_sized at t = made_sized hash size hash_sized (λ x y. Unit {0}) plain_over plain_over (plain_fits hash size hash_sized) (whole elements)
        (whole elements) 0 0 at t

    pinned_sized : (at : ℕ) (t : Tree) → Sized hash size (T at t)
    pinned_sized at (leaf p) = none_or size none (known p) (at_sized size peaks pinned p sized) none_sized
    pinned_sized at (branch p left right) = or_sized size (known p) _ (at_sized size peaks pinned p sized) (hash_sized _)

    pinned_matches : (at : ℕ) (t : Tree) → Matches hash (T at t) (E at t)
    pinned_matches at (leaf p) = tt
    pinned_matches at (branch p left right) =
        let middle = at + leaf_count left in
        or_matches (known p) _ (E at (branch p left right))
        ((plain_fits hash size hash_sized).matches at (height (branch p left right)) p (T at left) (T middle right) (E at left) (E middle right)
        (pinned_sized at left) (pinned_sized middle right) (real_sized at left) (real_sized middle right)
        (pinned_matches at left) (pinned_matches middle right))

    pub pinned_alike : (at : ℕ) (t : Tree) → IsAlike hash size hash_sized plain_names (T at t) (E at t)
    pinned_alike at t = record { sized = pinned_sized at t; real_sized = real_sized at t; matches = pinned_matches at t }

    pub all_alike : (ns : List Located)
        → AreAlike hash size hash_sized plain_names (map (λ n. T n.0 n.1) ns) (map (λ n. E n.0 n.1) ns)
    all_alike [] = tt
    all_alike (n ∷ ns) = (pinned_alike n.0 n.1, all_alike ns)

-- a node at whose position a digest is pinned is a peak of the tree before the range
module _ (rule : Rule) (pairs : IsPairing rule) (start count : ℕ) (pinned : List (List ℕ)) where
  abbrev K : Lookup
  K = at_peak (peaks_of rule start) pinned

  pub pinned_peak : (at : ℕ) (t : Tree) (e : List ℕ) → IsNodeAt at t (forest_of rule count) → K (position t) ≡ Some e
      → IsPeakAt at t (forest_of rule start)
  pinned_peak at t e stands is =
      let trees = forest_of rule start in
      let found = if_there (λ d. (n : Located) × IsPeakAt n.0 n.1 trees × (position n.1 ≡ position t)) (K (position t)) e is
      (at_found (λ n. IsPeakAt n.0 n.1 trees) (located trees) pinned (position t)
      (located_all (λ n. IsPeakAt n.0 n.1 trees) trees (λ f g peak. peak))) in
      let same = one-node rule pairs start count found.0.0 at found.0.1 t (peak-node found.0.0 found.0.1 trees found.1) stands found.2 in
      subst (λ k. IsPeakAt k t trees) same.0 (subst (λ g. IsPeakAt found.0.0 g trees) same.1 found.1)

-- what is pinned at a peak that stands in a tree is the digest there, where the tree agrees with that of the list
module _ (hash : Hash) (none : List ℕ) (elements : List (List ℕ)) (rule : Rule) (pairs : IsPairing rule) (start count : ℕ)
    (pinned : List (List ℕ)) where
  abbrev known_there : Lookup
  known_there = at_peak (peaks_of rule start) pinned

  abbrev R : ℕ → Tree → Made
  R = made_tree plain_over (whole elements)

  pub descend : (at : ℕ) (t : Tree) (first : ℕ) (node : Tree) (d : List ℕ) → IsNodeAt at t (forest_of rule count)
      → IsPeakAt first node (forest_of rule start) → IsWithin first node at t → known_there (position node) ≡ Some d
      → Agrees hash (pinned_made none known_there at t) (R at t) → d ≡ value hash (R first node)
  descend at (leaf p) first node d stands peak within is agrees =
      let here : known_there p ≡ Some d = ap (λ g. known_there (position g)) (sym within.1) ∙ is in
      sym (ap (λ o. unwrap_or o none) here) ∙ agrees ∙ ap₂ (λ k g. value hash (R k g)) (sym within.0) (sym within.1)
  descend at (branch p left right) first node d stands peak (inl within) is agrees =
      let here : known_there p ≡ Some d = ap (λ g. known_there (position g)) (sym within.1) ∙ is in
      let t : Tree = branch p left right in
      subst (λ o. Agrees hash (option_map_or bytes o (branch_made plain_over at (height (branch p left right)) p (pinned_made none known_there at left)
      (pinned_made none known_there (at + leaf_count left) right))) (R at (branch p left right))) here agrees
      ∙ ap₂ (λ k g. value hash (R k g)) (sym within.0) (sym within.1)
  descend at (branch p left right) first node d stands peak (inr within) is agrees =
      let middle = at + leaf_count left in
      let rebuilt = branch_made plain_over at (height (branch p left right)) p (pinned_made none known_there at left)
      (pinned_made none known_there middle right) in
      ⊎_elim
      (λ none_here. let same = subst (λ o. Agrees hash (option_map_or bytes o rebuilt) (R at (branch p left right))) none_here agrees in
      let parts = plain_children hash at (height (branch p left right)) p (pinned_made none known_there at left)
      (pinned_made none known_there middle right) (R at left)
      (R middle right) same in
      ⊎_elim
      (λ there. descend at left first node d (node-left at p left right (forest_of rule count) stands) peak there is parts.0)
      (λ there. descend middle right first node d (node-right at p left right (forest_of rule count) stands) peak there is parts.1)
      within)
      (λ some. absurd (let own = pinned_peak rule pairs start count pinned at (branch p left right) some.0 stands some.1 in
      ⊎_elim
      (λ there. let fits = within-fits first at node left there in
      not_inside (forest_of rule start) first at node (branch p left right) peak own fits.0
      (omega (arith, fits.1)) (omega (arith, fits.0, fits.1, leaf_count-pos right)))
      (λ there. let fits = within-fits first middle node right there in
      not_inside (forest_of rule start) first at node (branch p left right) peak own (omega (arith, fits.0))
      (omega (arith, fits.1)) (omega (arith, fits.0, fits.1, leaf_count-pos left)))
      within))
      (either_digest (known_there p))
