-- One string a site, in peaks that are bagged, hashed or rebuilt, and in the root over them.
use Rattle.std.proofs.Common.{◌≡◌, ◌⊎◌, inl, inr, ⊎_elim, ℕ, zero, suc, ◌+◌, ◌<◌, ◌≤◌, List, [], ◌∷◌, ◌++◌, length}
use Rattle.std.proofs.Common.{None, Some, option_map}
use Rattle.std.proofs.Common.{option_and_then, IfSome, refl, sym, ◌∙◌, ap, arith}
use Rattle.std.specs.List.{list_all}
use Rattle.merkle_forest.specs.Forest.{Tree, position}
use Rattle.merkle_forest.specs.Hashing.{Hash, number, domain_of, inactive_count}
use Rattle.merkle_forest.specs.Made.{Site, Made, bytes, both, value, strings}
use Rattle.merkle_forest.specs.Nodes.{IsWithin}
use Rattle.merkle_forest.specs.Perfect.{IsPerfect}
use Rattle.merkle_forest.specs.Trees.{Located}
use Rattle.merkle_forest.specs.declared.bagging.Bagging.{Bagging}
use Rattle.merkle_theory.specs.Laws.MadeBags.{bind_good, map_good}
use Rattle.merkle_theory.specs.Laws.MadeTrees.{choose}
use Rattle.merkle_theory.specs.MadeRoots.{Naming, folded, made_peak, made_back, made_onto, made_bag, root_made, Streams}
use Rattle.merkle_theory.specs.MadeRoots.{Bagged, given_outer}
use Rattle.merkle_theory.specs.MadeRoots.{read_peak, read_back, read_onto, read_group, read_bag}
use Rattle.merkle_theory.specs.MadeTrees.{Over, Elements, made_tree, read_tree}
use Rattle.merkle_theory.specs.Ranges.{meets, is_before, is_after}
use Rattle.state_theory.specs.Laws.OneEachLists.{IsOne, Implies, none_one, wider_one, top_one, append_one}
use Rattle.state_theory.specs.Laws.OneEachTrees.{part_of, Numbered, IsOf, IsIn, of_position, of_part}

-- a node of one of these peaks
abbrev pub IsAmong : ℕ → Tree → List Located → Type 0
IsAmong first node [] = ⊥
IsAmong first node (peak ∷ peaks) = IsWithin first node peak.0 peak.1 ⊎ IsAmong first node peaks

-- each peak is perfect, its nodes at one position are one, and no node of a later peak stands there
abbrev pub AreApart : List Located → Type 0
AreApart [] = Unit {0}
AreApart (peak ∷ peaks) = Numbered peak.0 peak.1 × IsPerfect peak.1
    × ((f g : ℕ) (a b : Tree) → IsWithin f a peak.0 peak.1 → IsAmong g b peaks → position a ≡ position b → ⊥)
    × AreApart peaks

-- the sites of the root and of the folds are of one part of the canonical root, and differ
pub record IsNaming (part : ℕ) (names : Naming) : Type 0 where
  pub low : part < 5
  pub root : part_of names.root_site ≡ part
  pub fold : (a b : ℕ) → part_of (names.fold_site a b) ≡ part
  pub same : (a b c d : ℕ) → names.fold_site a b ≡ names.fold_site c d → (a ≡ c) × (b ≡ d)
  pub not_fold : (a b : ℕ) → names.root_site ≡ names.fold_site a b → ⊥

module _ (Own : ℕ → Tree → List ℕ → Type 0) (Joined : Type 0) where
  -- a string of a node of one of these peaks
  abbrev pub IsInAny : List Located → Site → List ℕ → Type 0
  IsInAny peaks s u = (first : ℕ) × (node : Tree) × IsAmong first node peaks × IsOf Own Joined first node s u

  -- of such a node, or of this part of the canonical root
  abbrev pub IsOfPart : ℕ → List Located → Site → List ℕ → Type 0
  IsOfPart part peaks s u = IsInAny peaks s u ⊎ (part_of s ≡ part)

  -- what is before these peaks, of all
  pub record IsBefore (all : List Located) (P : Site → List ℕ → Type 0) (peaks : List Located) : Type 0 where
    pub among : Implies P (IsInAny all)
    pub rest : Implies (IsInAny peaks) (IsInAny all)
    pub apart : (s : Site) (u v : List ℕ) → P s u → IsInAny peaks s v → ⊥

  abbrev InPeak : Located → Site → List ℕ → Type 0
  InPeak peak = IsIn Own Joined peak.0 peak.1

  peak_apart : (peak : Located) (peaks : List Located) → AreApart (peak ∷ peaks) → (s : Site) (u v : List ℕ)
      → InPeak peak s u → IsInAny peaks s v → ⊥
  peak_apart peak peaks apart s u v l r =
      apart.2 l.0 r.0 l.1 r.1 l.2 r.2 (sym (of_position Own Joined l.0 l.1 s u l.3)
      ∙ of_position Own Joined r.0 r.1 s v r.3)

  next_before : (all : List Located) (P : Site → List ℕ → Type 0) (peak : Located) (peaks : List Located)
      → AreApart (peak ∷ peaks)
      → IsBefore all P (peak ∷ peaks) → IsBefore all (λ s u. P s u ⊎ InPeak peak s u) peaks
  next_before all P peak peaks apart before = record {
    among = λ s u here. ⊎_elim (λ p. before.among s u p) (λ own. before.rest s u (own.0, own.1, inl own.2, own.3)) here;
    rest = λ s u here. before.rest s u (here.0, here.1, inr here.2, here.3);
    apart = λ s u v here there.
        ⊎_elim (λ p. before.apart s u v p (there.0, there.1, inr there.2, there.3))
        (λ own. peak_apart peak peaks apart s u v own there) here;
  }

  first_before : (peak : Located) (peaks : List Located) → AreApart (peak ∷ peaks)
      → IsBefore (peak ∷ peaks) (InPeak peak) peaks
  first_before peak peaks apart = record {
    among = λ s u own. (own.0, own.1, inl own.2, own.3);
    rest = λ s u here. (here.0, here.1, inr here.2, here.3);
    apart = λ s u v own there. peak_apart peak peaks apart s u v own there;
  }

module _ (hash : Hash) (part : ℕ) (names : Naming) (naming : IsNaming part names)
    (Own : ℕ → Tree → List ℕ → Type 0) (Joined : Type 0) (last : ℕ) where
  abbrev In : Located → Site → List ℕ → Type 0
  In peak = IsIn Own Joined peak.0 peak.1

  abbrev InAny : List Located → Site → List ℕ → Type 0
  InAny peaks = IsInAny Own Joined peaks

  -- of peaks from the one numbered n on; of what is folded before it; and of all that are bagged
  abbrev Back : ℕ → List Located → Site → List ℕ → Type 0
  Back n peaks s u = InAny peaks s u ⊎ ((a : ℕ) × (n ≤ a) × (s ≡ names.fold_site a last))

  abbrev Left : ℕ → (Site → List ℕ → Type 0) → Site → List ℕ → Type 0
  Left n P s u = P s u ⊎ ((b : ℕ) × (b < n) × (s ≡ names.fold_site 1 b))

  abbrev Bag : List Located → Site → List ℕ → Type 0
  Bag peaks s u = InAny peaks s u ⊎ ((a : ℕ) × (b : ℕ) × (s ≡ names.fold_site a b))

  no_node : (a b : ℕ) (s : Site) → s ≡ names.fold_site a b → part_of s ≡ 5 → ⊥
  no_node a b s fold node = omega (arith, ap part_of fold, node, naming.fold a b, naming.low)

  in_part : (peak : Located) (s : Site) (u : List ℕ) → In peak s u → part_of s ≡ 5
  in_part peak s u is = of_part Own Joined is.0 is.1 s u is.3

  any_part : (peaks : List Located) (s : Site) (u : List ℕ) → InAny peaks s u → part_of s ≡ 5
  any_part peaks s u is = of_part Own Joined is.0 is.1 s u is.3

  fold_one : (a b : ℕ) (x y : Made) (P Q R : Site → List ℕ → Type 0) → IsOne P (strings hash x)
      → IsOne Q (strings hash y)
      → ((s : Site) (u v : List ℕ) → P s u → Q s v → ⊥)
      → ((u : List ℕ) → P (names.fold_site a b) u → ⊥) → ((u : List ℕ) → Q (names.fold_site a b) u → ⊥)
      → Implies P R → Implies Q R → ((u : List ℕ) → R (names.fold_site a b) u)
      → IsOne R (strings hash (folded names a b x y))
  fold_one a b x y P Q R one_x one_y apart not_x not_y wider_x wider_y own =
      let Both : Site → List ℕ → Type 0 = λ s u. P s u ⊎ Q s u in
      top_one Both (names.fold_site a b) (value hash x ++ value hash y) (strings hash x ++ strings hash y)
      (append_one P Q (strings hash x) (strings hash y) one_x one_y (λ s u v l r. absurd (apart s u v l r)) Both
      (λ s u l. inl l) (λ s u r. inr r))
      (λ u here. ⊎_elim (λ l. not_x u l) (λ r. not_y u r) here) R (own (value hash x ++ value hash y))
      (λ s u here. ⊎_elim (λ l. wider_x s u l) (λ r. wider_y s u r) here)

  back_step : (n : ℕ) (peak next : Located) (peaks : List Located) (x y : Made) → AreApart (peak ∷ next ∷ peaks)
      → IsOne (In peak) (strings hash x)
      → IsOne (Back (suc n) (next ∷ peaks)) (strings hash y)
      → IsOne (Back n (peak ∷ next ∷ peaks)) (strings hash (folded names n last x y))
  back_step n peak next peaks x y apart one_x one_y =
      fold_one n last x y (In peak) (Back (suc n) (next ∷ peaks)) (Back n (peak ∷ next ∷ peaks)) one_x one_y
      (λ s u v l r. ⊎_elim (λ there. peak_apart Own Joined peak (next ∷ peaks) apart s u v l there)
      (λ fold. no_node fold.0 last s fold.2 (in_part peak s u l)) r)
      (λ u l. no_node n last (names.fold_site n last) refl (in_part peak (names.fold_site n last) u l))
      (λ u r. ⊎_elim (λ there. no_node n last (names.fold_site n last) refl (any_part (next
      ∷ peaks) (names.fold_site n last) u there))
      (λ fold. omega (arith, (naming.same n last fold.0 last fold.2).0, fold.1)) r)
      (λ s u l. inl (l.0, l.1, inl l.2, l.3))
      (λ s u r. ⊎_elim (λ there. inl (there.0, there.1, inr there.2, there.3)) (λ fold. inr (
        fold.0,
        omega (arith, fold.1),
        fold.2,
      )) r)
      (λ u. inr (n, omega arith, refl))

  module _ (all : List Located) where
    onto_step : (n : ℕ) (first : Made) (peak : Located) (peaks : List Located) (x : Made) (P : Site → List ℕ → Type 0)
        → IsBefore Own Joined all P (peak ∷ peaks)
        → IsOne (Left n P) (strings hash first) → IsOne (In peak) (strings hash x)
        → IsOne (Left (suc n) (λ s u. P s u ⊎ In peak s u)) (strings hash (folded names 1 n first x))
    onto_step n first peak peaks x P before one_first one_x =
        fold_one 1 n first x (Left n P) (In peak) (Left (suc n) (λ s u. P s u ⊎ In peak s u)) one_first one_x
        (λ s u v l r. ⊎_elim (λ p. before.apart s u v p (r.0, r.1, inl r.2, r.3))
        (λ fold. no_node 1 fold.0 s fold.2 (in_part peak s v r)) l)
        (λ u l. ⊎_elim (λ p. no_node 1 n (names.fold_site 1 n) refl
        (any_part all (names.fold_site 1 n) u (before.among (names.fold_site 1 n) u p)))
        (λ fold. omega (arith, (naming.same 1 n 1 fold.0 fold.2).1, fold.1)) l)
        (λ u r. no_node 1 n (names.fold_site 1 n) refl (in_part peak (names.fold_site 1 n) u r))
        (λ s u l. ⊎_elim (λ p. inl (inl p)) (λ fold. inr (fold.0, omega (arith, fold.1), fold.2)) l)
        (λ s u r. inl (inr r))
        (λ u. inr (n, omega arith, refl))

    onto_end : (n : ℕ) (first : Made) (peaks : List Located) (y : Made) (P : Site → List ℕ → Type 0)
        → IsBefore Own Joined all P peaks → 2 ≤ n → n ≤ last
        → IsOne (Left n P) (strings hash first) → IsOne (Back n peaks) (strings hash y)
        → IsOne (Bag all) (strings hash (folded names 1 last first y))
    onto_end n first peaks y P before two within one_first one_y =
        fold_one 1 last first y (Left n P) (Back n peaks) (Bag all) one_first one_y
        (λ s u v l r. ⊎_elim
        (λ p. ⊎_elim (λ there. before.apart s u v p there)
        (λ fold. no_node fold.0 last s fold.2 (any_part all s u (before.among s u p))) r)
        (λ left. ⊎_elim (λ there. no_node 1 left.0 s left.2 (any_part peaks s v there))
        (λ fold. omega (arith, (naming.same 1 left.0 fold.0 last (sym left.2 ∙ fold.2)).0, fold.1, two)) r) l)
        (λ u l. ⊎_elim (λ p. no_node 1 last (names.fold_site 1 last) refl (any_part all (names.fold_site 1 last) u
        (before.among (names.fold_site 1 last) u p)))
        (λ fold. omega (arith, (naming.same 1 last 1 fold.0 fold.2).1, fold.1, within)) l)
        (λ u r. ⊎_elim (λ there. no_node 1 last (names.fold_site 1 last) refl
        (any_part peaks (names.fold_site 1 last) u there))
        (λ fold. omega (arith, (naming.same 1 last fold.0 last fold.2).0, fold.1, two)) r)
        (λ s u l. ⊎_elim (λ p. inl (before.among s u p)) (λ fold. inr (1, fold.0, fold.2)) l)
        (λ s u r. ⊎_elim (λ there. inl (before.rest s u there)) (λ fold. inr (fold.0, last, fold.2)) r)
        (λ u. inr (1, last, refl))

    left_bag : (n : ℕ) (P : Site → List ℕ → Type 0) (peaks : List Located) → IsBefore Own Joined all P peaks
        → Implies (Left n P) (Bag all)
    left_bag n P peaks before s u l = ⊎_elim (λ p. inl (before.among s u p)) (λ fold. inr (1, fold.0, fold.2)) l

  back_bag : (n : ℕ) (peaks : List Located) → Implies (Back n peaks) (Bag peaks)
  back_bag n peaks s u r = ⊎_elim (λ there. inl there) (λ fold. inr (fold.0, last, fold.2)) r

  single_back : (n : ℕ) (peak : Located) → Implies (In peak) (Back n (peak ∷ []))
  single_back n peak s u own = inl (own.0, own.1, inl own.2, own.3)

  -- ---- peaks that are hashed
  module _ (over : Over) (elements : Elements)
      (peak_one : (at : ℕ) (t : Tree) → Numbered at t → IsPerfect t
      → IsOne (IsIn Own Joined at t) (strings hash (made_tree over elements at t))) where
    back_one : (n : ℕ) (peak : Located) (peaks : List Located) → AreApart (peak ∷ peaks)
        → IsOne (Back n (peak ∷ peaks)) (strings hash (made_back names over elements last n peak peaks))
    back_one n peak [] apart =
        wider_one (In peak) (Back n (peak ∷ [])) (strings hash (made_peak over elements peak))
        (peak_one peak.0 peak.1 apart.0 apart.1)
        (single_back n peak)
    back_one n peak (next ∷ peaks) apart =
        back_step n peak next peaks (made_peak over elements peak)
        (made_back names over elements last (suc n) next peaks) apart
        (peak_one peak.0 peak.1 apart.0 apart.1) (back_one (suc n) next peaks apart.3)

    onto_one : (all : List Located) (inactive n : ℕ) (first : Made) (peaks : List Located) (P : Site → List ℕ → Type 0)
        → IsBefore Own Joined all P peaks
        → AreApart peaks → 2 ≤ n → n + length peaks ≡ suc last → IsOne (Left n P) (strings hash first)
        → IsOne (Bag all) (strings hash (made_onto names over elements last inactive n first peaks))
    onto_one all inactive n first [] P before apart two total one =
        wider_one (Left n P) (Bag all) (strings hash first) one (left_bag all n P [] before)
    onto_one all zero n first (peak ∷ peaks) P before apart two total one =
        onto_end all n first (peak ∷ peaks) (made_back names over elements last n peak peaks) P before two
        (omega (arith, total)) one
        (back_one n peak peaks apart)
    onto_one all (suc inactive) n first (peak ∷ peaks) P before apart two total one =
        onto_one all inactive (suc n) (folded names 1 n first (made_peak over elements peak)) peaks (λ s u. P s u
        ⊎ In peak s u)
        (next_before Own Joined all P peak peaks apart before) apart.3 (omega (arith, two)) (omega (arith, total))
        (onto_step all n first peak peaks (made_peak over elements peak) P before one
        (peak_one peak.0 peak.1 apart.0 apart.1))

    pub bag_one : (inactive : ℕ) (peaks : List Located) → AreApart peaks → length peaks ≡ last
        → IsOne (Bag peaks) (strings hash (made_bag names over elements last inactive peaks))
    bag_one inactive [] apart total = none_one (Bag [])
    bag_one zero (peak ∷ peaks) apart total =
        wider_one (Back 1 (peak ∷ peaks)) (Bag (peak ∷ peaks))
        (strings hash (made_back names over elements last 1 peak peaks))
        (back_one 1 peak peaks apart) (back_bag 1 (peak ∷ peaks))
    bag_one (suc inactive) (peak ∷ peaks) apart total =
        onto_one (peak ∷ peaks) inactive 2 (made_peak over elements peak) peaks (In peak)
        (first_before Own Joined peak peaks apart) apart.3
        (omega arith) (omega (arith, total))
        (wider_one (In peak) (Left 2 (In peak)) (strings hash (made_peak over elements peak))
        (peak_one peak.0 peak.1 apart.0 apart.1)
        (λ s u own. inl own))

  -- ---- peaks that are read
  module _ (over : Over) (claimed : Elements) (start stop : ℕ)
      (peak_read : (at : ℕ) (t : Tree) (digests : List (List ℕ)) → Numbered at t
      → IfSome (read_tree over claimed start stop at t digests)
      (λ got. IsOne (IsIn Own Joined at t) (strings hash got.0))) where
    abbrev Reads : (Site → List ℕ → Type 0) → Made × Streams → Type 0
    Reads P got = IsOne P (strings hash got.0)

    outer_read : (P : Site → List ℕ → Type 0) (streams : Streams) → IfSome (given_outer streams) (Reads P)
    outer_read P ([], inner) = tt
    outer_read P ((d ∷ outer), inner) = none_one P

    one_read : (peak : Located) (streams : Streams) → Numbered peak.0 peak.1
        → IfSome (read_peak over claimed start stop peak streams) (Reads (In peak))
    one_read peak streams numbered =
        choose (λ got. IfSome got (Reads (In peak))) (meets start stop peak)
        (option_map (λ x. (x.0, (streams.0, x.1))) (read_tree over claimed start stop peak.0 peak.1 streams.1))
        (given_outer streams)
        (λ is. map_good (λ (x : Made × List (List ℕ)). IsOne (In peak) (strings hash x.0)) (Reads (In peak))
        (λ x. (x.0, (streams.0, x.1)))
        (read_tree over claimed start stop peak.0 peak.1 streams.1)
        (peak_read peak.0 peak.1 streams.1 numbered) (λ x one. one))
        (λ is. outer_read (In peak) streams)

    wider_read : (P R : Site → List ℕ → Type 0) (got : Bagged) → Implies P R
        → IfSome got (Reads P) → IfSome got (Reads R)
    wider_read P R None wider is = tt
    wider_read P R (Some x) wider is = wider_one P R (strings hash x.0) is wider

    back_read : (n : ℕ) (peak : Located) (peaks : List Located) (streams : Streams) → AreApart (peak ∷ peaks)
        → IfSome (read_back names over claimed start stop last n peak peaks streams) (Reads (Back n (peak ∷ peaks)))
    back_read n peak [] streams apart =
        wider_read (In peak) (Back n (peak ∷ [])) (read_peak over claimed start stop peak streams) (single_back n peak)
        (one_read peak streams apart.0)
    back_read n peak (next ∷ peaks) streams apart =
        let Whole : Made × Streams → Type 0 = Reads (Back n (peak ∷ next ∷ peaks)) in
        choose (λ got. IfSome got Whole) (list_all (is_after stop) (peak ∷ next ∷ peaks)) (given_outer streams)
        (option_and_then (λ x. option_map (λ y. (folded names n last x.0 y.0, y.1))
        (read_back names over claimed start stop last (suc n) next peaks x.1))
        (read_peak over claimed start stop peak streams))
        (λ is. outer_read (Back n (peak ∷ next ∷ peaks)) streams)
        (λ is. bind_good (Reads (In peak)) Whole
        (λ x. option_map (λ y. (folded names n last x.0 y.0, y.1)) (read_back names over claimed start stop last
        (suc n) next peaks x.1))
        (read_peak over claimed start stop peak streams) (one_read peak streams apart.0)
        (λ x one. map_good (Reads (Back (suc n) (next ∷ peaks))) Whole (λ y. (folded names n last x.0 y.0, y.1))
        (read_back names over claimed start stop last (suc n) next peaks x.1) (back_read (suc n) next peaks x.1 apart.3)
        (λ y other. back_step n peak next peaks x.0 y.0 apart one other)))

    onto_read : (all : List Located) (inactive n : ℕ) (first : Made) (peaks : List Located) (streams : Streams)
        (P : Site → List ℕ → Type 0)
        → IsBefore Own Joined all P peaks
        → AreApart peaks → 2 ≤ n → n + length peaks ≡ suc last → IsOne (Left n P) (strings hash first)
        → IfSome (read_onto names over claimed start stop last inactive n first peaks streams) (Reads (Bag all))
    onto_read all inactive n first [] streams P before apart two total one =
        wider_one (Left n P) (Bag all) (strings hash first) one (left_bag all n P [] before)
    onto_read all zero n first (peak ∷ peaks) streams P before apart two total one =
        map_good (Reads (Back n (peak ∷ peaks))) (Reads (Bag all)) (λ y. (folded names 1 last first y.0, y.1))
        (read_back names over claimed start stop last n peak peaks streams) (back_read n peak peaks streams apart)
        (λ y other. onto_end all n first (peak ∷ peaks) y.0 P before two (omega (arith, total)) one other)
    onto_read all (suc inactive) n first (peak ∷ peaks) streams P before apart two total one =
        bind_good (Reads (In peak)) (Reads (Bag all))
        (λ x. read_onto names over claimed start stop last inactive (suc n) (folded names 1 n first x.0) peaks x.1)
        (read_peak over claimed start stop peak streams) (one_read peak streams apart.0)
        (λ x own. onto_read all inactive (suc n) (folded names 1 n first x.0) peaks x.1 (λ s u. P s u ⊎ In peak s u)
        (next_before Own Joined all P peak peaks apart before) apart.3 (omega (arith, two)) (omega (arith, total))
        (onto_step all n first peak peaks x.0 P before one own))

    group_read : (all : List Located) (inactive n : ℕ) (first : Made) (peaks : List Located) (streams : Streams)
        (P : Site → List ℕ → Type 0)
        → IsBefore Own Joined all P peaks
        → AreApart peaks → 2 ≤ n → n + length peaks ≡ suc last
        → ((R : Site → List ℕ → Type 0) → IsOne R (strings hash first))
        → IfSome (read_group names over claimed start stop last inactive n first peaks streams) (Reads (Bag all))
    group_read all inactive n first [] streams P before apart two total known = known (Bag all)
    group_read all zero n first (peak ∷ peaks) streams P before apart two total known =
        onto_read all zero n first (peak ∷ peaks) streams P before apart two total (known (Left n P))
    group_read all (suc inactive) n first (peak ∷ peaks) streams P before apart two total known =
        choose (λ got. IfSome got (Reads (Bag all))) (is_before start peak)
        (read_group names over claimed start stop last inactive (suc n) first peaks streams)
        (read_onto names over claimed start stop last (suc inactive) n first (peak ∷ peaks) streams)
        (λ yes. group_read all inactive (suc n) first peaks streams (λ s u. P s u ⊎ In peak s u)
        (next_before Own Joined all P peak peaks apart before) apart.3 (omega (arith, two))
        (omega (arith, total)) known)
        (λ no. onto_read all (suc inactive) n first (peak ∷ peaks) streams P before apart two total (known (Left n P)))

    given_group : (inactive : ℕ) (peak : Located) (peaks : List Located) (streams : Streams) → AreApart (peak ∷ peaks)
        → 1 + length peaks ≡ last
        → IfSome (option_and_then (λ x. read_group names over claimed start stop last inactive 2 x.0 peaks x.1)
        (given_outer streams))
        (Reads (Bag (peak ∷ peaks)))
    given_group inactive peak peaks ([], inner) apart total = tt
    given_group inactive peak peaks ((d ∷ outer), inner) apart total =
        group_read (peak ∷ peaks) inactive 2 (bytes d) peaks (
          outer,
          inner,
        ) (In peak) (first_before Own Joined peak peaks apart) apart.3 (omega arith)
        (omega (arith, total)) (λ R. none_one R)

    pub bag_read : (inactive : ℕ) (peaks : List Located) (streams : Streams) → AreApart peaks → length peaks ≡ last
        → IfSome (read_bag names over claimed start stop last inactive peaks streams) (Reads (Bag peaks))
    bag_read inactive [] streams apart total = tt
    bag_read zero (peak ∷ peaks) streams apart total =
        wider_read (Back 1 (peak ∷ peaks)) (Bag (peak ∷ peaks))
        (read_back names over claimed start stop last 1 peak peaks streams)
        (back_bag 1 (peak ∷ peaks)) (back_read 1 peak peaks streams apart)
    bag_read (suc inactive) (peak ∷ peaks) streams apart total =
        choose (λ got. IfSome got (Reads (Bag (peak ∷ peaks)))) (is_before start peak)
        (option_and_then (λ x. read_group names over claimed start stop last inactive 2 x.0 peaks x.1)
        (given_outer streams))
        (option_and_then (λ x. read_onto names over claimed start stop last inactive 2 x.0 peaks x.1)
        (read_peak over claimed start stop peak streams))
        (λ yes. given_group inactive peak peaks streams apart (omega (arith, total)))
        (λ no. bind_good (Reads (In peak)) (Reads (Bag (peak ∷ peaks)))
        (λ x. read_onto names over claimed start stop last inactive 2 x.0 peaks x.1)
        (read_peak over claimed start stop peak streams)
        (one_read peak streams apart.0)
        (λ x own. onto_read (peak ∷ peaks) inactive 2 x.0 peaks x.1 (In peak)
        (first_before Own Joined peak peaks apart) apart.3 (omega arith)
        (omega (arith, total)) (wider_one (In peak) (Left 2 (In peak)) (strings hash x.0) own (λ s u here. inl here))))

  -- ---- the root's own string stands at a site of its own
  no_root : (peaks : List Located) (u : List ℕ) → Bag peaks names.root_site u → ⊥
  no_root peaks u (inl node) = omega (arith, naming.root, naming.low, any_part peaks names.root_site u node)
  no_root peaks u (inr fold) = naming.not_fold fold.0 fold.1 fold.2

  of_part_bag : (peaks : List Located) → Implies (Bag peaks) (IsOfPart Own Joined part peaks)
  of_part_bag peaks s u here =
      ⊎_elim (λ node. inl node) (λ fold. inr (ap part_of fold.2 ∙ naming.fold fold.0 fold.1)) here

  pub root_one : (bagging : Bagging) (leaf_total inactive : ℕ) (peaks : List Located) (bag : Made)
      → IsOne (Bag peaks) (strings hash bag)
      → IsOne (IsOfPart Own Joined part peaks) (strings hash (root_made names bagging leaf_total inactive bag))
  root_one bagging leaf_total inactive peaks bag one =
      top_one (Bag peaks) names.root_site
      (value hash (both (bytes (number leaf_total)) (both (bytes (domain_of bagging ∷ inactive_count inactive)) bag)))
      (strings hash bag) one (no_root peaks) (IsOfPart Own Joined part peaks) (inr naming.root) (of_part_bag peaks)
