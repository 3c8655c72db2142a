-- One string a site, in the root of a plain tree that is hashed or rebuilt.
use Rattle.std.proofs.Common.{◌≡◌, ◌⊎◌, inl, inr, ⊎_elim, ℕ, zero, suc}
use Rattle.std.proofs.Common.{◌+◌, ◌^◌, ◌≤◌, ◌||◌, ltb, List, [], ◌∷◌, ◌++◌}
use Rattle.std.proofs.Common.{length, take, drop, Contains, None, Some, option_map, option_and_then, IfSome, refl, sym}
use Rattle.std.proofs.Common.{◌∙◌, ap, subst, arith}
use Rattle.std.specs.List.{list_all}
use Rattle.std.proofs.lemmas.List.Elements.{Contains-append_cases}
use Rattle.merkle_forest.specs.declared.bagging.Bagging.{Bagging}
use Rattle.merkle_forest.specs.Forest.{Tree, leaf, branch, position, leaves, Rule, forest_of}
use Rattle.merkle_forest.specs.Hashing.{Hash, number, domain_of, inactive_count}
use Rattle.merkle_forest.specs.Laws.NodeGrowth.{one-node}
use Rattle.merkle_forest.specs.Laws.Nodes.{within-fits, node-fits}
use Rattle.merkle_forest.specs.Laws.Peaks.{leaf_count-pos}
use Rattle.merkle_forest.specs.Made.{Site, at_plain, at_fold, at_tree_root, Made, bytes, both, hashed, value, strings}
use Rattle.merkle_forest.specs.Nodes.{IsNodeAt}
use Rattle.merkle_forest.specs.Perfect.{IsPairing}
use Rattle.merkle_forest.specs.Trees.{Located, located}
use Rattle.merkle_theory.specs.Laws.MadeBags.{bind_good, map_good}
use Rattle.merkle_theory.specs.Laws.MadeTrees.{choose}
use Rattle.merkle_theory.specs.MadeRoots.{folded, made_peak, made_back, made_onto, made_bag, from_left, peaks_of}
use Rattle.merkle_theory.specs.MadeRoots.{root_made, Streams, Bagged, given_outer, read_peak, read_back, read_onto}
use Rattle.merkle_theory.specs.MadeRoots.{read_group, read_bag, used}
use Rattle.merkle_theory.specs.MadeTrees.{Elements, from, whole, plain_over, read_tree}
use Rattle.merkle_theory.specs.OneEach.{OneEach}
use Rattle.merkle_theory.specs.Ranges.{meets, is_before, is_after}
use Rattle.merkle_theory.specs.Soundness.{plain_names, RangeClaim, claimed_root, hashed_strings}
use Rattle.merkle_theory.proofs.OneEach.{Partial, Numbered, IsSiteIn, nothing, only, one_each, site_in, made_partial, read_partial}
use Rattle.merkle_theory.proofs.OneEachBag.{IsSiteOf, Apart, is_plain, parts_of, Back, back_site, back_one, Onto, IsLeftSite, onto_one}

-- the sites of nodes and of folds
abbrev pub IsInner : Site → Type 0
IsInner s = ((p : ℕ) × (s ≡ at_plain p)) ⊎ ((a : ℕ) × (b : ℕ) × (s ≡ at_fold a b))

not_root : (s : Site) → at_tree_root ≡ s → IsInner s → ⊥
not_root s top (inl is) = let clash : at_tree_root ≡ at_plain is.0 = top ∙ is.1 in cc
not_root s top (inr is) = let clash : at_tree_root ≡ at_fold is.0 is.1 = top ∙ is.2 in cc

-- the nodes of a forest have sites of their own
record IsSiteOfNode (trees : List Tree) (s : Site) : Type 0 where
  first : ℕ
  node : Tree
  stands : IsNodeAt first node trees
  is : s ≡ at_plain (position node)

site_append : (peaks : List Located) (peak : Located) (s : Site) → IsSiteOf (peaks ++ peak ∷ []) s → IsSiteOf peaks s ⊎ IsSiteIn peak.0 peak.1 s
site_append [] peak s (inl is) = inr is
site_append [] peak s (inr is) = absurd is
site_append (p ∷ peaks) peak s (inl is) = inl (inl is)
site_append (p ∷ peaks) peak s (inr is) = ⊎_elim (λ x. inl (inr x)) (λ x. inr x) (site_append peaks peak s is)

site_node : (trees : List Tree) (s : Site) → IsSiteOf (located trees) s → IsSiteOfNode trees s
site_node [] s is = absurd is
site_node (t ∷ ts) s is =
    ⊎_elim
    (λ earlier. let it = site_node ts s earlier in record { first = it.first; node = it.node; stands = inr it.stands; is = it.is })
    (λ here. record { first = here.0; node = here.1; stands = inl here.2; is = here.3 })
    (site_append (located ts) (leaves ts, t) s is)

apart_append : (peaks : List Located) (peak : Located) → Apart peaks → Numbered peak.0 peak.1
    → ((s : Site) → IsSiteOf peaks s → IsSiteIn peak.0 peak.1 s → ⊥) → Apart (peaks ++ peak ∷ [])
apart_append [] peak apart numbered none = (numbered, (λ s one other. other), tt)
apart_append (p ∷ peaks) peak apart numbered none = (
  apart.0,
  (λ s one other. ⊎_elim (λ earlier. apart.1 s one earlier) (λ here. none s (inl one) here) (site_append peaks peak s other)),
  apart_append peaks peak apart.2 numbered (λ s one other. none s (inr one) other),
)

pub same_position : (p q : ℕ) → at_plain p ≡ at_plain q → p ≡ q
same_position p q same = cc

pub apart_located : (rule : Rule) → IsPairing rule → (n : ℕ) (trees : List Tree)
    → ((first : ℕ) (node : Tree) → IsNodeAt first node trees → IsNodeAt first node (forest_of rule n)) → Apart (located trees)
apart_located rule pairs n [] all = tt
apart_located rule pairs n (t ∷ ts) all =
    apart_append (located ts) (leaves ts, t) (apart_located rule pairs n ts (λ first node stands. all first node (inr stands)))
    (λ f g a b one other same. one-node rule pairs n n f g a b (all f a (inl one)) (all g b (inl other)) same)
    (λ s earlier here.
    let it = site_node ts s earlier in
    let one = one-node rule pairs n n it.first here.0 it.node here.1 (all it.first it.node (inr it.stands)) (all here.0 here.1 (inl here.2))
    (same_position (position it.node) (position here.1) (sym it.is ∙ here.3)) in
    omega (arith, one.0, node-fits it.first it.node ts it.stands, within-fits here.0 (leaves ts) here.1 t here.2, leaf_count-pos it.node))

module _ (hash : Hash) (last : ℕ) where
  -- one string a site, all of nodes and folds
  abbrev pub Good : Made → Type 0
  Good made = OneEach (strings hash made) × ((s : Site) (u : List ℕ) → Contains (strings hash made) (s, u) → IsInner s)

  pub back_good : (n : ℕ) (peak : Located) (peaks : List Located) (made : Made) → Apart (peak ∷ peaks) → Back hash last n peak peaks made → Good made
  back_good n peak peaks made apart is = (
    back_one hash last n peak peaks made apart is,
    λ s u here.
        ⊎_elim (λ node. inl (is_plain (peak ∷ peaks) s node)) (λ fold. inr (fold.0, last, fold.2)) (back_site hash last n peak peaks made is s u here),
  )

  onto_inner : (inactive n : ℕ) (first : Made) (peaks : List Located) (made : Made) → ((s : Site) (u : List ℕ)
      → Contains (strings hash first) (s, u) → IsInner s)
      → Onto hash last inactive n first peaks made → (s : Site) (u : List ℕ) → Contains (strings hash made) (s, u) → IsInner s
  onto_inner inactive n first [] made all is s u here = all s u (subst (λ m. Contains (strings hash m) (s, u)) is here)
  onto_inner zero n first (peak ∷ peaks) made all is s u here =
      ⊎_elim (λ top. inr (1, last, sym top.0))
      (λ below. ⊎_elim (λ l. all s u l)
      (λ r. ⊎_elim (λ node. inl (is_plain (peak ∷ peaks) s node)) (λ fold. inr (fold.0, last, fold.2))
      (back_site hash last n peak peaks is.0 is.1 s u r)) below)
      (parts_of hash last (at_fold 1 last) first is.0 s u (subst (λ m. Contains (strings hash m) (s, u)) is.2 here))
  onto_inner (suc inactive) n first (peak ∷ peaks) made all is s u here =
      onto_inner inactive (suc n) (hashed (at_fold 1 n) [] (both first is.0)) peaks made
      (λ t w there. ⊎_elim (λ top. inr (1, n, sym top.0))
      (λ below. ⊎_elim (λ l. all t w l) (λ r. let it = site_in hash peak.0 peak.1 is.0 is.1 t w r in inl (position it.1, it.3)) below)
      (parts_of hash last (at_fold 1 n) first is.0 t w there))
      is.2 s u here

  onto_good : (inactive n : ℕ) (first : Made) (peaks : List Located) (made : Made) (P : Site → Type 0)
      → ((s : Site) (u : List ℕ) → Contains (strings hash first) (s, u) → IsLeftSite hash last n P s)
      → ((s : Site) → P s → (p : ℕ) × (s ≡ at_plain p))
      → ((s : Site) → P s → IsSiteOf peaks s → ⊥) → Apart peaks → 2 ≤ n → n + length peaks ≡ suc last → OneEach (strings hash first)
      → Onto hash last inactive n first peaks made → Good made
  onto_good inactive n first peaks made P in_first plain_p apart_p apart two total one is = (
    onto_one hash last inactive n first peaks made P in_first plain_p apart_p apart two total one is,
    onto_inner inactive n first peaks made
        (λ s u here. ⊎_elim (λ p. inl (plain_p s p)) (λ fold. inr (1, fold.0, fold.2)) (in_first s u here)) is,
  )

  -- the peak comes first
  pub from_peak : (inactive : ℕ) (peak : Located) (peaks : List Located) (first made : Made) → Apart (peak ∷ peaks) → 1 + length peaks ≡ last
      → Partial peak.0 peak.1 first → Onto hash last inactive 2 first peaks made → Good made
  from_peak inactive peak peaks first made apart total is_first is =
      onto_good inactive 2 first peaks made (IsSiteIn peak.0 peak.1) (λ s u here. inl (site_in hash peak.0 peak.1 first is_first s u here))
      (λ s here. (position here.1, here.3)) apart.1 apart.2 (omega arith) (omega (arith, total)) (one_each hash peak.0 peak.1 first apart.0 is_first) is

  -- a digest comes first
  from_digest : (inactive n : ℕ) (d : List ℕ) (peaks : List Located) (made : Made) → Apart peaks → 2 ≤ n → n + length peaks ≡ suc last
      → Onto hash last inactive n (bytes d) peaks made → Good made
  from_digest inactive n d peaks made apart two total is =
      onto_good inactive n (bytes d) peaks made (λ s. ⊥) (λ s u here. absurd (nothing (s, u) here)) (λ s p. absurd p) (λ s p other. p) apart two total
      (λ s x y here there. absurd (nothing (s, x) here)) is

  back_made : (elements : Elements) (n : ℕ) (peak : Located) (peaks : List Located)
      → Back hash last n peak peaks (made_back plain_names plain_over elements last n peak peaks)
  back_made elements n peak [] = made_partial elements peak.0 peak.1
  back_made elements n peak (next ∷ peaks) =
      inr (
        made_peak plain_over elements peak,
        made_back plain_names plain_over elements last
            (suc n) next peaks,
        made_partial elements peak.0 peak.1,
        back_made elements (suc n) next peaks,
        refl,
      )

  onto_made : (elements : Elements) (inactive n : ℕ) (first : Made) (peaks : List Located)
      → Onto hash last inactive n first peaks (made_onto plain_names plain_over elements last inactive n first peaks)
  onto_made elements inactive n first [] = refl
  onto_made elements zero n first (peak ∷ peaks) = (made_back plain_names plain_over elements last n peak peaks, back_made elements n peak peaks, refl)
  onto_made elements (suc inactive) n first (peak ∷ peaks) = (
    made_peak plain_over elements peak,
    made_partial elements peak.0 peak.1,
    onto_made elements inactive (suc n) (folded plain_names 1 n first
        (made_peak plain_over elements peak)) peaks,
  )

  bag_made : (elements : Elements) (inactive : ℕ) (peaks : List Located) → Apart peaks → length peaks ≡ last
      → Good (made_bag plain_names plain_over elements last inactive peaks)
  bag_made elements inactive [] apart total = ((λ s x y here there. absurd (nothing (s, x) here)), (λ s u here. absurd (nothing (s, u) here)))
  bag_made elements zero (peak ∷ peaks) apart total = back_good 1 peak peaks (made_back plain_names plain_over elements last 1 peak peaks) apart
      (back_made elements 1 peak peaks)
  bag_made elements (suc inactive) (peak ∷ peaks) apart total =
      from_peak inactive peak peaks (made_peak plain_over elements peak) (made_onto plain_names plain_over elements last inactive 2
      (made_peak plain_over elements peak) peaks)
      apart (omega (arith, total)) (made_partial elements peak.0 peak.1) (onto_made elements inactive 2 (made_peak plain_over elements peak) peaks)

  module _ (claimed : Elements) (start stop : ℕ) where
    given_partial : (peak : Located) (streams : Streams) → IfSome (given_outer streams) (λ x. Partial peak.0 peak.1 x.0)
    given_partial peak ([], inner) = tt
    given_partial (at, leaf p) ((d ∷ outer), inner) = inl (d, refl)
    given_partial (at, branch p left right) ((d ∷ outer), inner) = inl (d, refl)

    peak_partial : (peak : Located) (streams : Streams) → IfSome (read_peak plain_over claimed start stop peak streams) (λ x. Partial peak.0 peak.1 x.0)
    peak_partial peak streams =
        choose (λ got. IfSome got (λ x. Partial peak.0 peak.1 x.0)) (meets start stop peak)
        (option_map (λ x. (x.0, (streams.0, x.1))) (read_tree plain_over claimed start stop peak.0 peak.1 streams.1)) (given_outer streams)
        (λ is. map_good (λ (x : Made × List (List ℕ)). Partial peak.0 peak.1 x.0) (λ (x : Made
        × Streams). Partial peak.0 peak.1 x.0) (λ x. (x.0, (streams.0, x.1)))
        (read_tree plain_over claimed start stop peak.0 peak.1 streams.1) (read_partial claimed start stop peak.0 peak.1 streams.1) (λ x part. part))
        (λ is. given_partial peak streams)

    given_back : (n : ℕ) (peak next : Located) (peaks : List Located) (streams : Streams)
        → IfSome (given_outer streams) (λ x. Back hash last n peak (next ∷ peaks) x.0)
    given_back n peak next peaks ([], inner) = tt
    given_back n peak next peaks ((d ∷ outer), inner) = inl (d, refl)

    back_read : (n : ℕ) (peak : Located) (peaks : List Located) (streams : Streams)
        → IfSome (read_back plain_names plain_over claimed start stop last n peak peaks streams) (λ x. Back hash last n peak peaks x.0)
    back_read n peak [] streams = peak_partial peak streams
    back_read n peak (next ∷ peaks) streams =
        choose (λ got. IfSome got (λ x. Back hash last n peak (next ∷ peaks) x.0)) (list_all (is_after stop) (peak ∷ next ∷ peaks))
        (given_outer streams)
        (option_and_then (λ x. option_map (λ y. (folded plain_names n last x.0 y.0, y.1)) (read_back plain_names plain_over claimed start stop last
        (suc n) next peaks x.1))
        (read_peak plain_over claimed start stop peak streams))
        (λ is. given_back n peak next peaks streams)
        (λ is. bind_good (λ (x : Made × Streams). Partial peak.0 peak.1 x.0) (λ (x : Made × Streams). Back hash last n peak (next ∷ peaks) x.0)
        (λ x. option_map (λ y. (folded plain_names n last x.0 y.0, y.1)) (read_back plain_names plain_over claimed start stop last (suc n) next peaks x.1))
        (read_peak plain_over claimed start stop peak streams) (peak_partial peak streams)
        (λ x here.
        map_good (λ (y : Made × Streams). Back hash last (suc n) next peaks y.0) (λ (y : Made × Streams). Back hash last n peak (next ∷ peaks) y.0)
        (λ y. (folded plain_names n last x.0 y.0, y.1)) (read_back plain_names plain_over claimed start stop last (suc n) next peaks x.1) (back_read
        (suc n) next peaks x.1)
        (λ y there. inr (x.0, y.0, here, there, refl))))

    onto_read : (inactive n : ℕ) (first : Made) (peaks : List Located) (streams : Streams)
        → IfSome (read_onto plain_names plain_over claimed start stop last inactive n first peaks streams) (λ x. Onto hash last inactive n first peaks x.0)
    onto_read inactive n first [] streams = refl
    onto_read zero n first (peak ∷ peaks) streams =
        map_good (λ (y : Made × Streams). Back hash last n peak peaks y.0) (λ (y : Made × Streams). Onto hash last zero n first (peak ∷ peaks) y.0)
        (λ y. (folded plain_names 1 last first y.0, y.1)) (read_back plain_names plain_over claimed start stop last n peak peaks streams)
        (back_read n peak peaks streams)
        (λ y there. (y.0, there, refl))
    onto_read (suc inactive) n first (peak ∷ peaks) streams =
        bind_good (λ (x : Made × Streams). Partial peak.0 peak.1 x.0) (λ (y : Made × Streams). Onto hash last (suc inactive) n first (peak ∷ peaks) y.0)
        (λ x. read_onto plain_names plain_over claimed start stop last inactive (suc n) (folded plain_names 1 n first x.0) peaks x.1)
        (read_peak plain_over claimed start stop peak streams) (peak_partial peak streams)
        (λ x here. more x here (read_onto plain_names plain_over claimed start stop last inactive (suc n) (folded plain_names 1 n first x.0) peaks x.1)
        (onto_read inactive (suc n) (folded plain_names 1 n first x.0) peaks x.1))
      where
        more : (x : Made × Streams) → Partial peak.0 peak.1 x.0 → (got : Bagged)
            → IfSome got (λ y. Onto hash last inactive (suc n) (folded plain_names 1 n first x.0) peaks y.0)
            → IfSome got (λ y. Onto hash last (suc inactive) n first (peak ∷ peaks) y.0)
        more x here None is = tt
        more x here (Some y) is = (x.0, here, is)

    if_all : (P Q : Made → Type 0) (got : Bagged) → IfSome got (λ x. P x.0) → ((made : Made) → P made → Q made) → IfSome got (λ x. Q x.0)
    if_all P Q None is each = tt
    if_all P Q (Some x) is each = each x.0 is

    group_read : (inactive n : ℕ) (d : List ℕ) (peaks : List Located) (streams : Streams) → Apart peaks → 2 ≤ n → n + length peaks ≡ suc last
        → IfSome (read_group plain_names plain_over claimed start stop last inactive n (bytes d) peaks streams) (λ x. Good x.0)
    group_read inactive n d [] streams apart two total = from_digest inactive n d [] (bytes d) apart two total refl
    group_read zero n d (peak ∷ peaks) streams apart two total =
        if_all (Onto hash last zero n (bytes d) (peak ∷ peaks)) Good (read_onto plain_names plain_over claimed start stop last zero n (bytes d)
        (peak ∷ peaks) streams)
        (onto_read zero n (bytes d) (peak ∷ peaks) streams) (λ made is. from_digest zero n d (peak ∷ peaks) made apart two total is)
    group_read (suc inactive) n d (peak ∷ peaks) streams apart two total =
        choose (λ got. IfSome got (λ x. Good x.0)) (is_before start peak)
        (read_group plain_names plain_over claimed start stop last inactive (suc n) (bytes d) peaks streams)
        (read_onto plain_names plain_over claimed start stop last (suc inactive) n (bytes d) (peak ∷ peaks) streams)
        (λ is. group_read inactive (suc n) d peaks streams apart.2 (omega (arith, two)) (omega (arith, total)))
        (λ is. if_all (Onto hash last (suc inactive) n (bytes d) (peak ∷ peaks)) Good (read_onto plain_names plain_over claimed start stop last
        (suc inactive) n (bytes d) (peak ∷ peaks) streams)
        (onto_read (suc inactive) n (bytes d) (peak ∷ peaks) streams) (λ made is. from_digest (suc inactive) n d (peak ∷ peaks) made apart two total is))

    given_group : (inactive : ℕ) (peak : Located) (peaks : List Located) (streams : Streams) → Apart (peak ∷ peaks) → 1 + length peaks ≡ last
        → IfSome (option_and_then (λ x. read_group plain_names plain_over claimed start stop last inactive 2 x.0 peaks x.1) (given_outer streams))
        (λ x. Good x.0)
    given_group inactive peak peaks ([], inner) apart total = tt
    given_group inactive peak peaks ((d ∷ outer), inner) apart total = group_read inactive 2 d peaks (outer, inner) apart.2
        (omega arith) (omega (arith, total))

    bag_read : (inactive : ℕ) (peaks : List Located) (streams : Streams) → Apart peaks → length peaks ≡ last
        → IfSome (read_bag plain_names plain_over claimed start stop last inactive peaks streams) (λ x. Good x.0)
    bag_read inactive [] streams apart total = tt
    bag_read zero (peak ∷ peaks) streams apart total =
        if_all (Back hash last 1 peak peaks) Good (read_back plain_names plain_over claimed start stop last 1 peak peaks streams)
        (back_read 1 peak peaks streams)
        (λ made is. back_good 1 peak peaks made apart is)
    bag_read (suc inactive) (peak ∷ peaks) streams apart total =
        choose (λ got. IfSome got (λ x. Good x.0)) (is_before start peak)
        (option_and_then (λ x. read_group plain_names plain_over claimed start stop last inactive 2 x.0 peaks x.1) (given_outer streams))
        (option_and_then (λ x. read_onto plain_names plain_over claimed start stop last inactive 2 x.0 peaks x.1)
        (read_peak plain_over claimed start stop peak streams))
        (λ is. given_group inactive peak peaks streams apart (omega (arith, total)))
        (λ is. bind_good (λ (x : Made × Streams). Partial peak.0 peak.1 x.0) (λ (x : Made × Streams). Good x.0)
        (λ x. read_onto plain_names plain_over claimed start stop last inactive 2 x.0 peaks x.1)
        (read_peak plain_over claimed start stop peak streams) (peak_partial peak streams)
        (λ x here. if_all (Onto hash last inactive 2 x.0 peaks) Good
        (read_onto plain_names plain_over claimed start stop last inactive 2 x.0 peaks x.1) (onto_read inactive 2 x.0 peaks x.1)
        (λ made is. from_peak inactive peak peaks x.0 made apart (omega (arith, total)) here is)))

  -- the root's own string stands at a site of its own
  pub root_good : (string : List ℕ) (bag : Made) → Good bag → (s : Site) (u v : List ℕ)
      → Contains ((at_tree_root, string) ∷ strings hash bag) (s, u)
      → Contains ((at_tree_root, string) ∷ strings hash bag) (s, v) → u ≡ v
  root_good string bag good s u v one other = by (parts u one) (parts v other)
    where
      parts : (w : List ℕ) → Contains ((at_tree_root, string) ∷ strings hash bag) (s, w)
          → ((at_tree_root ≡ s) × (string ≡ w)) ⊎ Contains (strings hash bag) (s, w)
      parts w here = ⊎_elim (λ first. let is = only (at_tree_root, string) (s, w) first in inl (
        ap (λ (z : Site × List ℕ). z.0) is,
        ap (λ (z : Site
            × List ℕ). z.1) is,
      )) (λ rest. inr rest)
          (Contains-append_cases ((at_tree_root, string) ∷ []) (strings hash bag) (s, w) here)

      by : ((at_tree_root ≡ s) × (string ≡ u)) ⊎ Contains (strings hash bag) (s, u)
          → ((at_tree_root ≡ s) × (string ≡ v)) ⊎ Contains (strings hash bag) (s, v) → u ≡ v
      by (inl a) (inl b) = sym a.1 ∙ b.1
      by (inl a) (inr b) = absurd (not_root s a.0 (good.1 s v b))
      by (inr a) (inl b) = absurd (not_root s b.0 (good.1 s u a))
      by (inr a) (inr b) = good.0 s u v a b

-- the strings hashed for a list
pub hashed_one : (hash : Hash) (bagging : Bagging) (rule : Rule) → IsPairing rule → (elements : List (List ℕ)) (inactive : ℕ)
    → OneEach (hashed_strings hash bagging rule elements inactive)
hashed_one hash bagging rule pairs elements inactive =
    let peaks : List Located = peaks_of rule (length elements) in
    let bag : Made = made_bag plain_names plain_over (whole elements) (length peaks) (from_left bagging inactive (length peaks)) peaks in
    root_good hash (length peaks) (value hash (both (bytes (number (length elements))) (both (bytes (domain_of bagging ∷ inactive_count inactive)) bag))) bag
    (bag_made hash (length peaks) (whole elements) (from_left bagging inactive (length peaks)) peaks
    (apart_located rule pairs (length elements) (forest_of rule (length elements)) (λ first node stands. stands)) refl)

-- and those that a claim's root is rebuilt by
pub rebuilt_one : (hash : Hash) (bagging : Bagging) (rule : Rule) → IsPairing rule → (claim : RangeClaim)
    → IfSome (claimed_root bagging rule claim) (λ made. OneEach (strings hash made))
rebuilt_one hash bagging rule pairs claim =
    let n : ℕ = claim.leaves in
    let peaks : List Located = peaks_of rule n in
    let last : ℕ = length peaks in
    let stop : ℕ = claim.start + length claim.elements in
    let got = read_bag plain_names plain_over (from claim.start claim.elements) claim.start stop last (from_left bagging claim.inactive last) peaks
    (take claim.outer claim.digests, drop claim.outer claim.digests) in
    choose (λ r. IfSome r (λ made. OneEach (strings hash made))) (ltb (2 ^ 62) n || (ltb last claim.inactive || ltb n stop)) None
    (option_map (root_made plain_names bagging n claim.inactive) (option_and_then used got))
    (λ is. tt)
    (λ is. map_good (Good hash last) (λ made. OneEach (strings hash made)) (root_made plain_names bagging n claim.inactive) (option_and_then used got)
    (all_used got (bag_read hash last (from claim.start claim.elements) claim.start stop (from_left bagging claim.inactive last) peaks
    (take claim.outer claim.digests, drop claim.outer claim.digests) (apart_located rule pairs n (forest_of rule n) (λ first node stands. stands)) refl))
    (λ bag good. root_good hash last (value hash (both (bytes (number n)) (both (bytes (domain_of bagging ∷ inactive_count claim.inactive)) bag))) bag good))
  where
    all_used : (got : Bagged) → IfSome got (λ x. Good hash (length (peaks_of rule claim.leaves)) x.0)
        → IfSome (option_and_then used got) (Good hash (length (peaks_of rule claim.leaves)))
    all_used None is = tt
    all_used (Some (made, ([], []))) is = is
    all_used (Some (made, ((d ∷ outer), inner))) is = tt
    all_used (Some (made, ([], (d ∷ inner)))) is = tt
