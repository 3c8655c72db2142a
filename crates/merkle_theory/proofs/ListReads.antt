-- A proof whose term agrees with that of the list was read from the digests of the list.
use Rattle.std.proofs.Common.{◌≡◌, ℕ, zero, suc, ◌+◌, ◌<◌, true, false, cond, List, [], ◌∷◌, ◌++◌, None, Some, IfSome}
use Rattle.std.proofs.Common.{option_map, refl, sym, ◌∙◌, ap, arith, append_assoc, take, drop}
use Rattle.std.specs.List.{list_all}
use Rattle.std.specs.Prelude.{option_and_then}
use Rattle.std.proofs.lemmas.Bool.{leb-true, or_left, not_from_true}
use Rattle.merkle_forest.specs.Forest.{Tree, leaf, branch, height, leaf_count}
use Rattle.merkle_forest.specs.Hashing.{Hash, fold_string, folded_onto, folded_forward, folded_backward}
use Rattle.merkle_forest.specs.Made.{Made, bytes, value}
use Rattle.merkle_forest.specs.Trees.{Located, end_of}
use Rattle.merkle_forest.specs.Laws.Matching.{Agrees}
use Rattle.merkle_theory.specs.Ranges.{Digests, is_before, is_after, meets, as_one, siblings}
use Rattle.merkle_theory.specs.MadeTrees.{Over, Elements, leaf_made, branch_made, made_tree, given, read_tree}
use Rattle.merkle_theory.specs.MadeRoots.{Naming, Streams, Bagged, folded, made_peak, made_back, made_onto, made_bag}
use Rattle.merkle_theory.specs.MadeRoots.{given_outer, read_peak, read_back, read_onto, read_group, read_bag}
use Rattle.merkle_theory.specs.Reads.{Agrees as MadeOver}
use Rattle.merkle_theory.specs.Laws.MadeBags.{bind_good, map_good}
use Rattle.merkle_theory.specs.Laws.MadeTrees.{choose}
use Rattle.merkle_theory.specs.Laws.Values.{value_back}
use Rattle.merkle_theory.proofs.HonestRanges.{Ascend, Stands}
use Rattle.merkle_theory.proofs.HonestRanges as honest

module _ (hash : Hash) (names : Naming) (over_claimed over_real : Over) (claimed real : Elements) (digest : Digests) (start stop last : ℕ)
    (some : start < stop) (agrees : MadeOver hash over_real real digest start stop)
    (is : (at : ℕ) (t : Tree) → value hash (made_tree over_real real at t) ≡ digest at t)
    (parts : (at high p : ℕ) (a b c d : Made) → Agrees hash (branch_made over_claimed at high p a b) (branch_made over_real at high p c d)
    → Agrees hash a c × Agrees hash b d) where
  -- so are the digests that a tree is read from
  abbrev TreeTold : ℕ → Tree → List (List ℕ) → Made × List (List ℕ) → Type 0
  TreeTold at t ds got = Agrees hash got.0 (made_tree over_real real at t) → ds ≡ siblings digest start stop at t ++ got.1

  given_told : (at : ℕ) (t : Tree) (ds : List (List ℕ)) → meets start stop (at, t) ≡ false → IfSome (given ds) (TreeTold at t ds)
  given_told at t [] apart = tt
  given_told at t (d ∷ ds) apart = λ same.
      ap (λ e. e ∷ ds) (same ∙ is at t)
      ∙ sym (ap (λ es. es ++ ds) (honest.alone hash names over_real real digest start stop last some agrees at t apart))

  branch_told : (at p : ℕ) (left right : Tree) (ds : List (List ℕ)) (x y : Made × List (List ℕ)) → meets start stop (at, branch p left right) ≡ true
      → TreeTold at left ds x → TreeTold (at + leaf_count left) right x.1 y
      → TreeTold at (branch p left right) ds (branch_made over_claimed at (height (branch p left right)) p x.0 y.0, y.1)
  branch_told at p left right ds x y met one other = λ same.
      let both = parts at (height (branch p left right)) p x.0 y.0 (made_tree over_real real at left)
      (made_tree over_real real (at + leaf_count left) right) same in
      one both.0 ∙ ap (λ es. siblings digest start stop at left ++ es) (other both.1)
      ∙ sym (append_assoc (siblings digest start stop at left) (siblings digest start stop (at + leaf_count left) right) y.1)
      ∙ sym (ap (λ es. es ++ y.1) (honest.branch_siblings hash names over_real real digest start stop last some agrees at p left right met))

  leaf_told : (at p : ℕ) (ds : List (List ℕ)) → meets start stop (at, leaf p) ≡ true → TreeTold at (leaf p) ds (leaf_made p (claimed at), ds)
  leaf_told at p ds met = λ same. rw met refl

  pub tree_told : (at : ℕ) (t : Tree) (ds : List (List ℕ)) → IfSome (read_tree over_claimed claimed start stop at t ds) (TreeTold at t ds)
  tree_told at (leaf p) ds =
      choose (λ got. IfSome got (TreeTold at (leaf p) ds)) (meets start stop (at, leaf p)) (Some (leaf_made p (claimed at), ds)) (given ds)
      (leaf_told at p ds) (given_told at (leaf p) ds)
  tree_told at (branch p left right) ds =
      choose (λ got. IfSome got (TreeTold at (branch p left right) ds)) (meets start stop (at, branch p left right))
      (option_and_then (λ x. option_map (λ y. (branch_made over_claimed at (height (branch p left right)) p x.0 y.0, y.1))
      (read_tree over_claimed claimed start stop (at + leaf_count left) right x.1)) (read_tree over_claimed claimed start stop at left ds))
      (given ds)
      (λ met. bind_good (TreeTold at left ds) (TreeTold at (branch p left right) ds)
      (λ x. option_map (λ y. (branch_made over_claimed at (height (branch p left right)) p x.0 y.0, y.1))
      (read_tree over_claimed claimed start stop (at + leaf_count left) right x.1)) (read_tree over_claimed claimed start stop at left ds)
      (tree_told at left ds)
      (λ x one. map_good (TreeTold (at + leaf_count left) right x.1) (TreeTold at (branch p left right) ds)
      (λ y. (branch_made over_claimed at (height (branch p left right)) p x.0 y.0, y.1))
      (read_tree over_claimed claimed start stop (at + leaf_count left) right x.1) (tree_told (at + leaf_count left) right x.1)
      (λ y other. branch_told at p left right ds x y met one other)))
      (given_told at (branch p left right) ds)

  -- names of what is read, in the list
  abbrev D : List Located → List (List ℕ)
  D peaks = honest.D hash names over_real real digest start stop last some agrees peaks

  abbrev befores : List Located → List Located
  befores peaks = honest.befores hash names over_real real digest start stop last some agrees peaks

  abbrev afters : List Located → List Located
  afters peaks = honest.afters hash names over_real real digest start stop last some agrees peaks

  abbrev inner : List Located → List (List ℕ)
  inner peaks = honest.inner hash names over_real real digest start stop last some agrees peaks

  abbrev own_outer : Located → List (List ℕ) → List (List ℕ)
  own_outer peak outer = honest.own_outer hash names over_real real digest start stop last some agrees peak outer

  abbrev back_outer : List Located → List (List ℕ)
  back_outer peaks = honest.back_outer hash names over_real real digest start stop last some agrees peaks

  abbrev onto_outer : ℕ → List Located → List (List ℕ)
  onto_outer singly peaks = honest.onto_outer hash names over_real real digest start stop last some agrees singly peaks

  abbrev group_outer : ℕ → List Located → List (List ℕ)
  group_outer singly peaks = honest.group_outer hash names over_real real digest start stop last some agrees singly peaks

  abbrev pub all_outer : ℕ → List Located → List (List ℕ)
  all_outer singly peaks = honest.all_outer hash names over_real real digest start stop last some agrees singly peaks

  -- from these streams so much was read
  abbrev Took : List (List ℕ) → List (List ℕ) → Streams → Streams → Type 0
  Took outer inners streams rest = (streams.0 ≡ outer ++ rest.0) × (streams.1 ≡ inners ++ rest.1)

  -- of a peak
  abbrev PeakTold : Located → List Located → Streams → Made × Streams → Type 0
  PeakTold peak peaks streams got = Agrees hash got.0 (made_peak over_real real peak)
      → (streams.0 ≡ own_outer peak got.1.0)
      × ((more : List (List ℕ)) → got.1.1 ≡ inner peaks ++ more → streams.1 ≡ inner (peak ∷ peaks) ++ more)

  peak_met : (peak : Located) (peaks : List Located) (streams : Streams) (x : Made × List (List ℕ)) → meets start stop peak ≡ true
      → TreeTold peak.0 peak.1 streams.1 x → PeakTold peak peaks streams (x.0, (streams.0, x.1))
  peak_met peak peaks streams x met told = λ same. (
    rw met refl,
    λ more later. told same ∙ ap (λ es. siblings digest start stop peak.0 peak.1 ++ es) later
        ∙ sym (append_assoc (siblings digest start stop peak.0 peak.1) (inner peaks) more)
        ∙ sym (ap (λ es. es ++ more) (honest.inner_in hash names over_real real digest start stop last some agrees peak peaks met)),
  )

  peak_given : (peak : Located) (peaks : List Located) (streams : Streams) → meets start stop peak ≡ false
      → IfSome (given_outer streams) (PeakTold peak peaks streams)
  peak_given peak peaks ([], inners) apart = tt
  peak_given peak peaks ((d ∷ outer), inners) apart = λ same. (
    ap (λ e. e ∷ outer) (same ∙ is peak.0 peak.1) ∙ sym (ap (λ b. cond b outer (digest peak.0 peak.1 ∷ outer)) apart),
    λ more later. later
        ∙ sym (ap (λ es. es ++ more) (honest.inner_out hash names over_real real digest start stop last some agrees peak peaks apart)),
  )

  peak_told : (peak : Located) (peaks : List Located) (streams : Streams)
      → IfSome (read_peak over_claimed claimed start stop peak streams) (PeakTold peak peaks streams)
  peak_told peak peaks streams =
      choose (λ got. IfSome got (PeakTold peak peaks streams)) (meets start stop peak)
      (option_map (λ x. (x.0, (streams.0, x.1))) (read_tree over_claimed claimed start stop peak.0 peak.1 streams.1)) (given_outer streams)
      (λ met. map_good (TreeTold peak.0 peak.1 streams.1) (PeakTold peak peaks streams) (λ x. (x.0, (streams.0, x.1)))
      (read_tree over_claimed claimed start stop peak.0 peak.1 streams.1) (tree_told peak.0 peak.1 streams.1)
      (λ x told. peak_met peak peaks streams x met told))
      (peak_given peak peaks streams)

  stands : (peak : Located) → Stands hash names over_real real digest start stop last some agrees peak
  stands peak = honest.stands hash names over_real real digest start stop last some agrees peak

  -- of peaks that are folded from the right
  abbrev BackTold : ℕ → Located → List Located → Streams → Made × Streams → Type 0
  BackTold n peak peaks streams got = Agrees hash got.0 (made_back names over_real real last n peak peaks)
      → Took (back_outer (peak ∷ peaks)) (inner (peak ∷ peaks)) streams got.1

  back_last : (n : ℕ) (peak : Located) (streams : Streams) (got : Made × Streams) → PeakTold peak [] streams got → BackTold n peak [] streams got
  back_last n peak streams got told = λ same. (
    (told same).0 ∙ sym (honest.back_one hash names over_real real digest start stop last some agrees peak got.1.0 (stands peak)),
    (told same).1 got.1.1 refl,
  )

  back_given : (n : ℕ) (peak next : Located) (peaks : List Located) (streams : Streams)
      → honest.AllAfter hash names over_real real digest start stop last some agrees (peak ∷ next ∷ peaks)
      → IfSome (given_outer streams) (BackTold n peak (next ∷ peaks) streams)
  back_given n peak next peaks ([], inners) it = tt
  back_given n peak next peaks ((d ∷ outer), inners) it = λ same.
      let ps = peak ∷ next ∷ peaks in (
        ap (λ e. e ∷ outer) (same ∙ value_back hash names over_real real digest is last n peak (next ∷ peaks))
            ∙ sym (ap (λ qs. (D qs ++ as_one (folded_backward hash) (D (afters ps))) ++ outer) it.fronts
            ∙ ap (λ qs. as_one (folded_backward hash) (D qs) ++ outer) it.ends),
        sym (ap (λ es. es ++ inners) it.inners),
      )

  back_step : (n : ℕ) (peak next : Located) (peaks : List Located) (streams : Streams) (x y : Made × Streams) → is_after stop peak ≡ false
      → PeakTold peak (next ∷ peaks) streams x → BackTold (suc n) next peaks x.1 y
      → BackTold n peak (next ∷ peaks) streams (folded names n last x.0 y.0, y.1)
  back_step n peak next peaks streams x y not_after one others = λ same.
      let here = one same.1.0 in
      let there = others same.1.1 in (
        here.0 ∙ ap (own_outer peak) there.0
            ∙ sym (honest.back_more hash names over_real real digest start stop last some agrees peak (next ∷ peaks) y.1.0 (stands peak) not_after),
        here.1 y.1.1 there.1,
      )

  back_told : (n at : ℕ) (peak : Located) (peaks : List Located) (streams : Streams) → Ascend at (peak ∷ peaks)
      → IfSome (read_back names over_claimed claimed start stop last n peak peaks streams) (BackTold n peak peaks streams)
  back_told n at peak [] streams up =
      if_then (read_peak over_claimed claimed start stop peak streams) (peak_told peak [] streams)
    where
      if_then : (got : Bagged) → IfSome got (PeakTold peak [] streams) → IfSome got (BackTold n peak [] streams)
      if_then None told = tt
      if_then (Some got) told = back_last n peak streams got told
  back_told n at peak (next ∷ peaks) streams up =
      let one = read_peak over_claimed claimed start stop peak streams in
      let others : Made × Streams → Bagged = λ x. option_map (λ y. (folded names n last x.0 y.0, y.1))
      (read_back names over_claimed claimed start stop last (suc n) next peaks x.1) in
      choose (λ after. IfSome (cond (list_all (is_after stop) (peak ∷ next ∷ peaks)) (given_outer streams) (option_and_then others one))
      (BackTold n peak (next ∷ peaks) streams)) (is_after stop peak) true false
      (λ after. let it = honest.all_after hash names over_real real digest start stop last some agrees peak.0 (peak ∷ next ∷ peaks)
      (leb-true stop peak.0 after) (omega arith, up.1) in
      rw it.all (back_given n peak next peaks streams it))
      (λ not_after. let not_all : list_all (is_after stop) (peak ∷ next ∷ peaks) ≡ false = rw not_after refl in
      rw not_all (bind_good (PeakTold peak (next ∷ peaks) streams) (BackTold n peak (next ∷ peaks) streams) others one
      (peak_told peak (next ∷ peaks) streams)
      (λ x here. map_good (BackTold (suc n) next peaks x.1) (BackTold n peak (next ∷ peaks) streams) (λ y. (folded names n last x.0 y.0, y.1))
      (read_back names over_claimed claimed start stop last (suc n) next peaks x.1) (back_told (suc n) (end_of peak) next peaks x.1 up.1)
      (λ y there. back_step n peak next peaks streams x y not_after here there))))

  -- of peaks that are folded onto what is folded so far
  abbrev OntoTold : ℕ → ℕ → Made → Made → List Located → Streams → Made × Streams → Type 0
  OntoTold singly n first there peaks streams got = Agrees hash got.0 (made_onto names over_real real last singly n there peaks)
      → Agrees hash first there × Took (onto_outer singly peaks) (inner peaks) streams got.1

  onto_step : (singly n : ℕ) (first there : Made) (peak : Located) (peaks : List Located) (streams : Streams) (x y : Made × Streams)
      → PeakTold peak peaks streams x
      → OntoTold singly (suc n) (folded names 1 n first x.0) (folded names 1 n there (made_peak over_real real peak)) peaks x.1 y
      → OntoTold (suc singly) n first there (peak ∷ peaks) streams y
  onto_step singly n first there peak peaks streams x y one others = λ same.
      let rest = others same in
      let here = one rest.0.1.1 in (
        rest.0.1.0,
        (
          here.0 ∙ ap (own_outer peak) rest.1.0
              ∙ sym (ap (λ es. es ++ y.1.0) (honest.own_append hash names over_real real digest start stop last some agrees peak
              (honest.singles hash names over_real real digest start stop last some agrees (take singly peaks))
              (honest.back_outer hash names over_real real digest start stop last some agrees (drop singly peaks)))
              ∙ honest.own_append hash names over_real real digest start stop last some agrees peak (onto_outer singly peaks) y.1.0),
          here.1 y.1.1 rest.1.1,
        ),
      )

  onto_told : (singly n at : ℕ) (first there : Made) (peaks : List Located) (streams : Streams) → Ascend at peaks
      → IfSome (read_onto names over_claimed claimed start stop last singly n first peaks streams) (OntoTold singly n first there peaks streams)
  onto_told zero n at first there [] streams up = λ same. (same, (refl, refl))
  onto_told (suc singly) n at first there [] streams up = λ same. (same, (refl, refl))
  onto_told zero n at first there (peak ∷ peaks) streams up =
      map_good (BackTold n peak peaks streams) (OntoTold zero n first there (peak ∷ peaks) streams) (λ y. (folded names 1 last first y.0, y.1))
      (read_back names over_claimed claimed start stop last n peak peaks streams) (back_told n at peak peaks streams up)
      (λ y told same. (same.1.0, told same.1.1))
  onto_told (suc singly) n at first there (peak ∷ peaks) streams up =
      bind_good (PeakTold peak peaks streams) (OntoTold (suc singly) n first there (peak ∷ peaks) streams)
      (λ x. read_onto names over_claimed claimed start stop last singly (suc n) (folded names 1 n first x.0) peaks x.1)
      (read_peak over_claimed claimed start stop peak streams) (peak_told peak peaks streams)
      (λ x here. if_then x here (read_onto names over_claimed claimed start stop last singly (suc n) (folded names 1 n first x.0) peaks x.1)
      (onto_told singly (suc n) (end_of peak) (folded names 1 n first x.0) (folded names 1 n there (made_peak over_real real peak)) peaks x.1 up.1))
    where
      if_then : (x : Made × Streams) → PeakTold peak peaks streams x → (got : Bagged)
          → IfSome got (OntoTold singly (suc n) (folded names 1 n first x.0) (folded names 1 n there (made_peak over_real real peak)) peaks x.1)
          → IfSome got (OntoTold (suc singly) n first there (peak ∷ peaks) streams)
      if_then x here None told = tt
      if_then x here (Some y) told = onto_step singly n first there peak peaks streams x y here told

  -- of peaks of which the first ones are given as one
  abbrev GroupTold : ℕ → ℕ → List ℕ → Made → List ℕ → List Located → Streams → Made × Streams → Type 0
  GroupTold singly n d there f peaks streams got = Agrees hash got.0 (made_onto names over_real real last singly n there peaks)
      → (d ≡ folded_onto hash f (D (befores (take singly peaks)))) × Took (group_outer singly peaks) (inner peaks) streams got.1

  group_front : (singly n : ℕ) (d : List ℕ) (there : Made) (f : List ℕ) (peak : Located) (peaks : List Located)
      (streams : Streams) (got : Made × Streams)
      → is_before start peak ≡ true
      → GroupTold singly (suc n) d (folded names 1 n there (made_peak over_real real peak)) (hash (fold_string f (digest peak.0 peak.1))) peaks streams got
      → GroupTold (suc singly) n d there f (peak ∷ peaks) streams got
  group_front singly n d there f peak peaks streams got front told = λ same.
      let rest = told same in
      let apart : meets start stop peak ≡ false = not_from_true _ (or_left (is_before start peak) (is_after stop peak) front) in (
        rest.0
            ∙ sym (ap (folded_onto hash f) (honest.front_first hash names over_real real digest start stop last some agrees singly peak peaks front)),
        (
          rest.1.0 ∙ sym (ap (λ es. es ++ got.1.0)
              (honest.outer_before hash names over_real real digest start stop last some agrees singly peak peaks front)),
          rest.1.1 ∙ sym (ap (λ es. es ++ got.1.1)
              (honest.inner_out hash names over_real real digest start stop last some agrees peak peaks apart)),
        ),
      )

  group_other : (singly n at : ℕ) (d : List ℕ) (there : Made) (f : List ℕ) (peak : Located) (peaks : List Located) (streams : Streams)
      (got : Made × Streams) → value hash there ≡ f → Ascend at (peak ∷ peaks) → is_before start peak ≡ false
      → OntoTold (suc singly) n (bytes d) there (peak ∷ peaks) streams got → GroupTold (suc singly) n d there f (peak ∷ peaks) streams got
  group_other singly n at d there f peak peaks streams got same_f up not_front told = λ same.
      let rest = told same in
      let none = honest.none_from hash names over_real real digest start stop last some agrees singly at peak peaks up not_front in (
        rest.0 ∙ same_f ∙ sym (ap (λ ps. folded_onto hash f (D ps)) none.none),
        (
          rest.1.0 ∙ ap (λ es. es ++ got.1.0)
              (honest.onto_as_group hash names over_real real digest start stop last some agrees (suc singly) (peak ∷ peaks) none),
          rest.1.1,
        ),
      )

  told_as : (P Q : Made × Streams → Type 0) (got : Bagged) → IfSome got P → ((x : Made × Streams) → P x → Q x) → IfSome got Q
  told_as P Q None p each = tt
  told_as P Q (Some x) p each = each x p

  group_told : (singly n at : ℕ) (d : List ℕ) (there : Made) (f : List ℕ) (peaks : List Located) (streams : Streams) → value hash there ≡ f
      → Ascend at peaks
      → IfSome (read_group names over_claimed claimed start stop last singly n (bytes d) peaks streams) (GroupTold singly n d there f peaks streams)
  group_told zero n at d there f [] streams same_f up = λ same. (same ∙ same_f, (refl, refl))
  group_told (suc singly) n at d there f [] streams same_f up = λ same. (same ∙ same_f, (refl, refl))
  group_told zero n at d there f (peak ∷ peaks) streams same_f up =
      told_as (OntoTold zero n (bytes d) there (peak ∷ peaks) streams) (GroupTold zero n d there f (peak ∷ peaks) streams)
      (read_onto names over_claimed claimed start stop last zero n (bytes d) (peak ∷ peaks) streams)
      (onto_told zero n at (bytes d) there (peak ∷ peaks) streams up)
      (λ got told same. let rest = told same in (rest.0 ∙ same_f, rest.1))
  group_told (suc singly) n at d there f (peak ∷ peaks) streams same_f up =
      let next = folded names 1 n there (made_peak over_real real peak) in
      let f_next = hash (fold_string f (digest peak.0 peak.1)) in
      let same_next : value hash next ≡ f_next =
      ap (λ x. hash (fold_string x (value hash (made_peak over_real real peak)))) same_f ∙ ap (λ x. hash (fold_string f x)) (is peak.0 peak.1) in
      choose (λ got. IfSome got (GroupTold (suc singly) n d there f (peak ∷ peaks) streams)) (is_before start peak)
      (read_group names over_claimed claimed start stop last singly (suc n) (bytes d) peaks streams)
      (read_onto names over_claimed claimed start stop last (suc singly) n (bytes d) (peak ∷ peaks) streams)
      (λ front. told_as (GroupTold singly (suc n) d next f_next peaks streams) (GroupTold (suc singly) n d there f (peak ∷ peaks) streams)
      (read_group names over_claimed claimed start stop last singly (suc n) (bytes d) peaks streams)
      (group_told singly (suc n) (end_of peak) d next f_next peaks streams same_next up.1)
      (λ got told. group_front singly n d there f peak peaks streams got front told))
      (λ not_front. told_as (OntoTold (suc singly) n (bytes d) there (peak ∷ peaks) streams)
      (GroupTold (suc singly) n d there f (peak ∷ peaks) streams)
      (read_onto names over_claimed claimed start stop last (suc singly) n (bytes d) (peak ∷ peaks) streams)
      (onto_told (suc singly) n at (bytes d) there (peak ∷ peaks) streams up)
      (λ got told. group_other singly n at d there f peak peaks streams got same_f up not_front told))

  -- of all peaks
  abbrev pub BagTold : ℕ → List Located → Streams → Made × Streams → Type 0
  BagTold singly peaks streams got = Agrees hash got.0 (made_bag names over_real real last singly peaks)
      → Took (all_outer singly peaks) (inner peaks) streams got.1

  bag_group : (singly : ℕ) (peak : Located) (peaks : List Located) (streams : Streams) → Ascend 0 (peak ∷ peaks) → is_before start peak ≡ true
      → IfSome (option_and_then (λ x. read_group names over_claimed claimed start stop last singly 2 x.0 peaks x.1) (given_outer streams))
      (BagTold (suc singly) (peak ∷ peaks) streams)
  bag_group singly peak peaks ([], inners) up front = tt
  bag_group singly peak peaks ((d ∷ outer), inners) up front =
      let f = digest peak.0 peak.1 in
      let there = made_peak over_real real peak in
      let apart : meets start stop peak ≡ false = not_from_true _ (or_left (is_before start peak) (is_after stop peak) front) in
      told_as (GroupTold singly 2 d there f peaks (outer, inners)) (BagTold (suc singly) (peak ∷ peaks) ((d ∷ outer), inners))
      (read_group names over_claimed claimed start stop last singly 2 (bytes d) peaks (outer, inners))
      (group_told singly 2 (end_of peak) d there f peaks (outer, inners) (is peak.0 peak.1) up.1)
      (λ got told same. let rest = told same in (
        ap (λ e. e ∷ outer) rest.0 ∙ ap (λ es. folded_onto hash f (D (befores (take singly peaks))) ∷ es) rest.1.0
            ∙ sym (ap (λ es. (as_one (folded_forward hash) es ++ group_outer (suc singly) (peak ∷ peaks)) ++ got.1.0)
            (honest.front_first hash names over_real real digest start stop last some agrees singly peak peaks front)
            ∙ ap (λ es. folded_onto hash f (D (befores (take singly peaks))) ∷ (es ++ got.1.0))
            (honest.outer_before hash names over_real real digest start stop last some agrees singly peak peaks front)),
        rest.1.1 ∙ sym (ap (λ es. es ++ got.1.1)
            (honest.inner_out hash names over_real real digest start stop last some agrees peak peaks apart)),
      ))

  bag_own : (singly : ℕ) (peak : Located) (peaks : List Located) (streams : Streams) → Ascend 0 (peak ∷ peaks) → is_before start peak ≡ false
      → IfSome (option_and_then (λ x. read_onto names over_claimed claimed start stop last singly 2 x.0 peaks x.1)
      (read_peak over_claimed claimed start stop peak streams)) (BagTold (suc singly) (peak ∷ peaks) streams)
  bag_own singly peak peaks streams up not_front =
      let there = made_peak over_real real peak in
      let none = honest.none_from hash names over_real real digest start stop last some agrees singly 0 peak peaks up not_front in
      bind_good (PeakTold peak peaks streams) (BagTold (suc singly) (peak ∷ peaks) streams)
      (λ x. read_onto names over_claimed claimed start stop last singly 2 x.0 peaks x.1)
      (read_peak over_claimed claimed start stop peak streams) (peak_told peak peaks streams)
      (λ x here. told_as (OntoTold singly 2 x.0 there peaks x.1) (BagTold (suc singly) (peak ∷ peaks) streams)
      (read_onto names over_claimed claimed start stop last singly 2 x.0 peaks x.1)
      (onto_told singly 2 (end_of peak) x.0 there peaks x.1 up.1)
      (λ got told same. let rest = told same in
      let own = here rest.0 in (
        own.0 ∙ ap (own_outer peak) rest.1.0
            ∙ sym (ap (λ ps. (as_one (folded_forward hash) (D ps) ++ group_outer (suc singly) (peak ∷ peaks)) ++ got.1.0) none.none
            ∙ ap (λ es. es ++ got.1.0)
            (sym (honest.onto_as_group hash names over_real real digest start stop last some agrees (suc singly) (peak ∷ peaks) none)
            ∙ honest.own_append hash names over_real real digest start stop last some agrees peak
            (honest.singles hash names over_real real digest start stop last some agrees (take singly peaks))
            (honest.back_outer hash names over_real real digest start stop last some agrees (drop singly peaks)))
            ∙ honest.own_append hash names over_real real digest start stop last some agrees peak (onto_outer singly peaks) got.1.0),
        own.1 got.1.1 rest.1.1,
      )))

  pub bag_told : (singly : ℕ) (peaks : List Located) (streams : Streams) → Ascend 0 peaks
      → IfSome (read_bag names over_claimed claimed start stop last singly peaks streams) (BagTold singly peaks streams)
  bag_told singly [] streams up = tt
  bag_told zero (peak ∷ peaks) streams up = back_told 1 0 peak peaks streams up
  bag_told (suc singly) (peak ∷ peaks) streams up =
      choose (λ got. IfSome got (BagTold (suc singly) (peak ∷ peaks) streams)) (is_before start peak)
      (option_and_then (λ x. read_group names over_claimed claimed start stop last singly 2 x.0 peaks x.1) (given_outer streams))
      (option_and_then (λ x. read_onto names over_claimed claimed start stop last singly 2 x.0 peaks x.1)
      (read_peak over_claimed claimed start stop peak streams))
      (bag_group singly peak peaks streams up) (bag_own singly peak peaks streams up)
