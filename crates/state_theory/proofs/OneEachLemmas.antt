-- One string a site, in the root of a list of bits and in one that is rebuilt from a proof of a bit.
use Rattle.std.proofs.Common.{◌≡◌, ◌⊎◌, inl, inr, ⊎_elim, ℕ, zero, suc, ◌*◌, ◌/◌, ◌%◌}
use Rattle.std.proofs.Common.{Bool, eqb, leb, ltb, cond, ◌||◌, List, [], ◌∷◌, ◌++◌, length, Contains}
use Rattle.std.proofs.Common.{Option, None, Some, option_map, IfSome, sym, ◌∙◌, ap, subst, arith}
use Rattle.std.proofs.lemmas.List.Elements.{Contains-append_cases}
use Rattle.merkle_forest.specs.declared.bagging.Bagging.{Bagging}
use Rattle.merkle_forest.specs.Forest.{mmr_rule}
use Rattle.merkle_forest.specs.Hashing.{Hash, number}
use Rattle.merkle_forest.specs.Made.{Site, at_bitmap_root, at_last_chunk, Made, bytes, both, hashed, value, Strings, strings}
use Rattle.merkle_theory.specs.Laws.MadeBags.{map_good}
use Rattle.merkle_theory.specs.Laws.MadeTrees.{choose}
use Rattle.merkle_theory.specs.MadeTrees.{plain_over}
use Rattle.merkle_theory.specs.OneEach.{OneEach}
use Rattle.merkle_theory.specs.Soundness.{list_root}
use Rattle.state_theory.specs.Bits.{chunk_at, full_chunks}
use Rattle.state_theory.specs.Inclusion.{also, partial_made, last_made, made_bitmap, BitClaim, tree_read, last_of, front_of, partial_read, bit_root}
use Rattle.state_theory.proofs.SiteLemmas.{IsTreeSite, IsOfTree, root_sites, range_sited}

nothing : {A : Type 0} (x : A) → Contains [] x → ⊥
nothing x here = omega (arith, here.1)

only : {A : Type 0} (a x : A) → Contains (a ∷ []) x → a ≡ x
only a x (zero, few, is) = is
only a x (suc k, few, is) = absurd (omega (arith, few))

first_or_rest : (own : Site × List ℕ) (rest : Strings) (s : Site) (u : List ℕ) → Contains (own ∷ rest) (s, u)
    → ((own.0 ≡ s) × (own.1 ≡ u)) ⊎ Contains rest (s, u)
first_or_rest own rest s u here =
    ⊎_elim (λ first. let is = only own (s, u) first in inl (ap (λ (z : Site × List ℕ). z.0) is, ap (λ (z : Site × List ℕ). z.1) is))
    (λ more. inr more) (Contains-append_cases (own ∷ []) rest (s, u) here)

not_bitmap_root : (s : Site) → at_bitmap_root ≡ s → IsTreeSite s → ⊥
not_bitmap_root s is tree = subst IsTreeSite (sym is) tree

not_last_chunk : (s : Site) → at_last_chunk ≡ s → IsTreeSite s → ⊥
not_last_chunk s is tree = subst IsTreeSite (sym is) tree

two_sites : (s : Site) → at_bitmap_root ≡ s → at_last_chunk ≡ s → ⊥
two_sites s one other = let clash : at_bitmap_root ≡ at_last_chunk = one ∙ sym other in absurd cc

module _ (hash : Hash) where
  -- a tree's sites are none of the bitmap's own
  site_of : (made : Made) → IsOfTree made → (s : Site) (u : List ℕ) → Contains (strings hash made) (s, u) → IsTreeSite s
  site_of (bytes xs) is s u here = absurd (nothing (s, u) here)
  site_of (both a b) is s u here =
      ⊎_elim (λ l. site_of a is.0 s u l) (λ r. site_of b is.1 s u r) (Contains-append_cases (strings hash a) (strings hash b) (s, u) here)
  site_of (hashed site [] inner) is s u here =
      ⊎_elim (λ (top : (site ≡ s) × (value hash inner ≡ u)). subst IsTreeSite top.0 is.0) (λ below. site_of inner is.1 s u below)
      (first_or_rest (site, value hash inner) (strings hash inner) s u here)
  site_of (hashed site (other ∷ more) inner) is s u here = absurd is

  -- one string a site, and all of a tree
  abbrev pub Good : Made → Type 0
  Good made = IsOfTree made × OneEach (strings hash made)

  -- ---- bits that fill their chunks
  also_hashed : (site : Site) (inner : Made) → Good (hashed site [] inner) → OneEach (strings hash (also at_bitmap_root (hashed site [] inner)))
  also_hashed site inner good s u v one other = by (parts u one) (parts v other)
    where
      string : List ℕ
      string = value hash inner

      tree : Strings
      tree = strings hash (hashed site [] inner)

      again : (w : List ℕ) → ((site ≡ s) × (string ≡ w)) ⊎ Contains (strings hash inner) (s, w) → Contains tree (s, w)
      again w (inl top) = (0, omega arith, ap (λ (z : Site). (z, string)) top.0 ∙ ap (λ (z : List ℕ). (s, z)) top.1)
      again w (inr (k, few, is)) = (suc k, omega (arith, few), is)

      parts : (w : List ℕ) → Contains (strings hash (also at_bitmap_root (hashed site [] inner))) (s, w)
          → ((at_bitmap_root ≡ s) × (string ≡ w)) ⊎ Contains tree (s, w)
      parts w here =
          ⊎_elim (λ top. inr (again w (inl top)))
          (λ rest. ⊎_elim (λ own. inl own) (λ below. inr (again w (inr below)))
          (first_or_rest (at_bitmap_root, string) (strings hash inner) s w rest))
          (first_or_rest (site, string) ((at_bitmap_root, string) ∷ strings hash inner) s w here)

      by : ((at_bitmap_root ≡ s) × (string ≡ u)) ⊎ Contains tree (s, u)
          → ((at_bitmap_root ≡ s) × (string ≡ v)) ⊎ Contains tree (s, v) → u ≡ v
      by (inl a) (inl b) = sym a.1 ∙ b.1
      by (inl a) (inr b) = absurd (not_bitmap_root s a.0 (site_of (hashed site [] inner) good.0 s v b))
      by (inr a) (inl b) = absurd (not_bitmap_root s b.0 (site_of (hashed site [] inner) good.0 s u a))
      by (inr a) (inr b) = good.1 s u v a b

  pub also_one : (made : Made) → Good made → OneEach (strings hash (also at_bitmap_root made))
  also_one (bytes xs) good = good.1
  also_one (both a b) good = good.1
  also_one (hashed site (other ∷ more) inner) good = absurd good.0
  also_one (hashed site [] inner) good = also_hashed site inner good

  -- ---- a last chunk that is partial
  -- one string at most, of the last chunk
  abbrev IsLast : Made → Type 0
  IsLast last = ((s : Site) (u : List ℕ) → Contains (strings hash last) (s, u) → at_last_chunk ≡ s) × OneEach (strings hash last)

  known_last : (digest : List ℕ) → IsLast (bytes digest)
  known_last digest = ((λ s u here. absurd (nothing (s, u) here)), (λ s u v one other. absurd (nothing (s, u) one)))

  hashed_last : (chunk : List ℕ) → IsLast (last_made chunk)
  hashed_last chunk = (
    (λ s u here. ap (λ (z : Site × List ℕ). z.0) (only (at_last_chunk, chunk) (s, u) here)),
    (λ s u v one other. sym (ap (λ (z : Site × List ℕ). z.1) (only (at_last_chunk, chunk) (s, u) one))
        ∙ ap (λ (z : Site × List ℕ). z.1) (only (at_last_chunk, chunk) (s, v) other)),
  )

  pub partial_one : (tree : Made) (bits : ℕ) (last : Made) → Good tree → IsLast last → OneEach (strings hash (partial_made tree bits last))
  partial_one tree bits last good is_last s u v one other = by (parts u one) (parts v other)
    where
      string : List ℕ
      string = value hash (both tree (both (bytes (number bits)) last))

      Part : List ℕ → Type 0
      Part w = ((at_bitmap_root ≡ s) × (string ≡ w)) ⊎ (Contains (strings hash tree) (s, w) ⊎ Contains (strings hash last) (s, w))

      parts : (w : List ℕ) → Contains (strings hash (partial_made tree bits last)) (s, w) → Part w
      parts w here =
          ⊎_elim (λ top. inl top) (λ rest. inr (Contains-append_cases (strings hash tree) (strings hash last) (s, w) rest))
          (first_or_rest (at_bitmap_root, string) (strings hash tree ++ strings hash last) s w here)

      by : Part u → Part v → u ≡ v
      by (inl a) (inl b) = sym a.1 ∙ b.1
      by (inl a) (inr (inl b)) = absurd (not_bitmap_root s a.0 (site_of tree good.0 s v b))
      by (inl a) (inr (inr b)) = absurd (two_sites s a.0 (is_last.0 s v b))
      by (inr (inl a)) (inl b) = absurd (not_bitmap_root s b.0 (site_of tree good.0 s u a))
      by (inr (inl a)) (inr (inl b)) = good.1 s u v a b
      by (inr (inl a)) (inr (inr b)) = absurd (not_last_chunk s (is_last.0 s v b) (site_of tree good.0 s u a))
      by (inr (inr a)) (inl b) = absurd (two_sites s b.0 (is_last.0 s u a))
      by (inr (inr a)) (inr (inl b)) = absurd (not_last_chunk s (is_last.0 s u a) (site_of tree good.0 s v b))
      by (inr (inr a)) (inr (inr b)) = is_last.1 s u v a b

  -- the root of a list of bits
  pub made_one : (bagging : Bagging) (width : ℕ) (all : List Bool)
      → OneEach (strings hash (list_root bagging mmr_rule (full_chunks width all) 0)) → OneEach (strings hash (made_bitmap bagging width all))
  unfolding made_bitmap
  made_one bagging width all one =
      let tree = list_root bagging mmr_rule (full_chunks width all) 0 in
      let good : Good tree = (root_sites bagging mmr_rule (full_chunks width all) 0, one) in
      let last = last_made (chunk_at width all (length all / (8 * width))) in
      choose (λ made. OneEach (strings hash made)) (eqb (length all % (8 * width)) 0) (also at_bitmap_root tree) (partial_made tree (length all) last)
      (λ aligned. also_one tree good)
      (λ partial. partial_one tree (length all) last good (hashed_last (chunk_at width all (length all / (8 * width)))))

  -- and one that is rebuilt, where the tree's has one string a site
  abbrev TreeIsOne : Bagging → ℕ → BitClaim → Type 0
  TreeIsOne bagging width claim = (digests : List (List ℕ))
      → IfSome (tree_read plain_over bagging width claim digests) (λ made. OneEach (strings hash made))

  if_both : (P Q : Made → Type 0) (got : Option Made) → IfSome got P → IfSome got Q → IfSome got (λ made. P made × Q made)
  if_both P Q None p q = tt
  if_both P Q (Some made) p q = (p, q)

  tree_good : (bagging : Bagging) (width : ℕ) (claim : BitClaim) → TreeIsOne bagging width claim → (digests : List (List ℕ))
      → IfSome (tree_read plain_over bagging width claim digests) Good
  tree_good bagging width claim one digests =
      if_both IsOfTree (λ made. OneEach (strings hash made)) (tree_read plain_over bagging width claim digests)
      (range_sited bagging mmr_rule (claim.bits / (8 * width)) 0 (claim.bit / (8 * width)) (claim.chunk ∷ []) digests) (one digests)

  part_one : (bagging : Bagging) (width : ℕ) (claim : BitClaim) → TreeIsOne bagging width claim
      → IfSome (partial_read plain_over bagging width claim) (λ made. OneEach (strings hash made))
  part_one bagging width claim one =
      let last = last_of claim.digests in
      let own = partial_made (bytes last) claim.bits (last_made claim.chunk) in
      let read = tree_read plain_over bagging width claim (front_of claim.digests) in
      let full = option_map (λ tree. partial_made tree claim.bits (bytes last)) read in
      choose (λ r. IfSome r (λ made. OneEach (strings hash made))) (eqb (claim.bits / (8 * width)) (claim.bit / (8 * width)))
      (cond (eqb (length claim.digests) 1) (Some own) None) (cond (eqb (length claim.digests) 0) None full)
      (λ tail. choose (λ r. IfSome r (λ made. OneEach (strings hash made))) (eqb (length claim.digests) 1) (Some own) None
      (λ yes. partial_one (bytes last) claim.bits (last_made claim.chunk)
      (tt, (λ s u v here there. absurd (nothing (s, u) here))) (hashed_last claim.chunk)) (λ no. tt))
      (λ front. choose (λ r. IfSome r (λ made. OneEach (strings hash made))) (eqb (length claim.digests) 0) None full (λ yes. tt)
      (λ no. map_good Good (λ made. OneEach (strings hash made)) (λ tree. partial_made tree claim.bits (bytes last)) read
      (tree_good bagging width claim one (front_of claim.digests)) (λ tree good. partial_one tree claim.bits (bytes last) good (known_last last))))

  pub rebuilt_one : (bagging : Bagging) (width : ℕ) (claim : BitClaim) → TreeIsOne bagging width claim
      → IfSome (bit_root plain_over bagging width claim) (λ made. OneEach (strings hash made))
  unfolding bit_root
  rebuilt_one bagging width claim one =
      let read = tree_read plain_over bagging width claim claim.digests in
      let full = option_map (also at_bitmap_root) read in
      let partial = partial_read plain_over bagging width claim in
      let aligned = eqb (claim.bits % (8 * width)) 0 in
      choose (λ r. IfSome r (λ made. OneEach (strings hash made))) (leb claim.bits claim.bit || ltb 0 claim.inactive) None (cond aligned full partial)
      (λ refused. tt)
      (λ there. choose (λ r. IfSome r (λ made. OneEach (strings hash made))) aligned full partial
      (λ yes. map_good Good (λ made. OneEach (strings hash made)) (also at_bitmap_root) read (tree_good bagging width claim one claim.digests) also_one)
      (λ no. part_one bagging width claim one))
