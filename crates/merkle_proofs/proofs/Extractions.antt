-- Nodes that a proof of a range tells, as a walk finds them.
use Rattle.std.proofs.Common.{◌≡◌, ℕ, zero, suc, ◌+◌, ◌≤◌, Bool, true, false}
use Rattle.std.proofs.Common.{filter, map, drop, length, get_or, List, [], ◌∷◌, ◌++◌}
use Rattle.std.proofs.Common.{refl, sym, ◌∙◌, ap, ap₂, arith, append_assoc}
use Rattle.std.proofs.lemmas.List.{map-append}
use Rattle.merkle_forest.specs.Forest.{Tree, leaf, branch, position, height, leaf_count}
use Rattle.merkle_forest.specs.Trees.{Located}
use Rattle.merkle_core_parts.specs.Mem.{encoded}
use Rattle.merkle_proofs.specs.Extracted.{told_nodes, inner_told, node_digests}
use Rattle.merkle_theory.specs.Ranges.{Digests, meets, siblings, inner_digests}

-- one more node
pub pushed : {D : Type 0} (encoding : D → List ℕ) (old new : List (ℕ × D)) (p q : ℕ) (d : D) (e : List ℕ)
    → new ≡ old ++ ((p, d) ∷ []) → p ≡ q
    → encoding d ≡ e → encoded encoding new ≡ encoded encoding old ++ ((q, e) ∷ [])
pushed encoding old new p q d e is place same =
    ap (encoded encoding) is ∙ map-append (λ one. (one.0, encoding one.1)) old ((p, d) ∷ [])
    ∙ ap₂ (λ n x. encoded encoding old ++ ((n, x) ∷ [])) place same

-- none
pub none_more : {A : Type 0} (xs : List A) → xs ≡ xs ++ []
none_more [] = refl
none_more (x ∷ xs) = ap (λ ys. x ∷ ys) (none_more xs)

module _ (digest : Digests) (start stop : ℕ) where
  pub told_out : (at : ℕ) (t : Tree) → meets start stop (at, t) ≡ false → told_nodes start stop at t ≡ (at, t) ∷ []
  told_out at (leaf p) out = refl
  told_out at (branch p left right) out = rw out refl

  pub told_low : (at high : ℕ) (t : Tree) → high ≡ 0 → high ≡ height t → told_nodes start stop at t ≡ (at, t) ∷ []
  told_low at high (leaf p) low level = refl
  told_low at high (branch p left right) low level = absurd (omega (arith, low, level))

  pub told_branch : (at p : ℕ) (left right : Tree) → meets start stop (at, branch p left right) ≡ true
      → told_nodes start stop at (branch p left right)
      ≡ told_nodes start stop at left ++ (told_nodes start stop (at + leaf_count left) right ++ ((at, branch p left right) ∷ []))
  told_branch at p left right met = rw met refl

  pub given_out : (at : ℕ) (t : Tree) → meets start stop (at, t) ≡ false → siblings digest start stop at t ≡ digest at t ∷ []
  given_out at (leaf p) out = rw out refl
  given_out at (branch p left right) out = rw out refl

  pub given_low : (at high : ℕ) (t : Tree) → high ≡ 0 → high ≡ height t → meets start stop (at, t) ≡ true
      → siblings digest start stop at t ≡ []
  given_low at high (leaf p) low level met = rw met refl
  given_low at high (branch p left right) low level met = absurd (omega (arith, low, level))

  pub given_branch : (at p : ℕ) (left right : Tree) → meets start stop (at, branch p left right) ≡ true
      → siblings digest start stop at (branch p left right) ≡ siblings digest start stop at left ++ siblings digest start stop (at + leaf_count left) right
  given_branch at p left right met = rw met refl

  -- the nodes of a branch, after those of its children
  pub grown_branch : (at p : ℕ) (left right : Tree) (old one two new : List (ℕ × List ℕ)) → meets start stop (at, branch p left right) ≡ true
      → one ≡ old ++ node_digests digest (told_nodes start stop at left)
      → two ≡ one ++ node_digests digest (told_nodes start stop (at + leaf_count left) right)
      → new ≡ two ++ ((p, digest at (branch p left right)) ∷ [])
      → new ≡ old ++ node_digests digest (told_nodes start stop at (branch p left right))
  grown_branch at p left right old one two new met first second third =
      let a = told_nodes start stop at left in
      let b = told_nodes start stop (at + leaf_count left) right in
      let own : List Located = (at, branch p left right) ∷ [] in
      let f : Located → ℕ × List ℕ = λ n. (position n.1, digest n.0 n.1) in
      third ∙ ap (λ xs. xs ++ ((p, digest at (branch p left right)) ∷ [])) (second ∙ ap (λ xs. xs ++ node_digests digest b) first)
      ∙ append_assoc (old ++ node_digests digest a) (node_digests digest b) (node_digests digest own)
      ∙ append_assoc old (node_digests digest a) (node_digests digest b ++ node_digests digest own)
      ∙ ap (λ xs. old ++ (node_digests digest a ++ xs)) (sym (map-append f b own))
      ∙ ap (λ xs. old ++ xs) (sym (map-append f a (b ++ own)))
      ∙ ap (λ ns. old ++ node_digests digest ns) (sym (told_branch at p left right met))

  -- peaks of which the first meets the range or does not
  pub peaks_out : (peak : Located) (peaks : List Located) → meets start stop peak ≡ false
      → inner_told start stop (peak ∷ peaks) ≡ inner_told start stop peaks
  peaks_out peak peaks out = rw out refl

  pub peaks_met : (peak : Located) (peaks : List Located) → meets start stop peak ≡ true
      → inner_told start stop (peak ∷ peaks) ≡ told_nodes start stop peak.0 peak.1 ++ inner_told start stop peaks
  peaks_met peak peaks met = rw met refl

  pub digests_out : (peak : Located) (peaks : List Located) → meets start stop peak ≡ false
      → inner_digests digest start stop (peak ∷ peaks) ≡ inner_digests digest start stop peaks
  digests_out peak peaks out = rw out refl

  pub digests_met : (peak : Located) (peaks : List Located) → meets start stop peak ≡ true
      → inner_digests digest start stop (peak ∷ peaks) ≡ siblings digest start stop peak.0 peak.1 ++ inner_digests digest start stop peaks
  digests_met peak peaks met = rw met refl

-- nodes, and then more
pub grown_both : (digest : Digests) (old one new : List (ℕ × List ℕ)) (xs ys : List Located) → one ≡ old ++ node_digests digest xs
    → new ≡ one ++ node_digests digest ys → new ≡ old ++ node_digests digest (xs ++ ys)
grown_both digest old one new xs ys first second =
    second ∙ ap (λ zs. zs ++ node_digests digest ys) first ∙ append_assoc old (node_digests digest xs) (node_digests digest ys)
    ∙ ap (λ zs. old ++ zs) (sym (map-append (λ (n : Located). (position n.1, digest n.0 n.1)) xs ys))

-- a first one that does not pass a test
pub skipped : (test : Located → Bool) (peak : Located) (peaks : List Located) → test peak ≡ false → filter test (peak ∷ peaks) ≡ filter test peaks
skipped test peak peaks out = rw out refl

-- what comes after so many
pub after_front : {A : Type 0} (n : ℕ) (front rest all : List A) → all ≡ front ++ rest → length front ≡ n → drop n all ≡ rest
after_front n front rest all is count = ap (λ m. drop m all) (sym count) ∙ ap (drop (length front)) is ∙ past front
  where
    past : (xs : List _) → drop (length xs) (xs ++ rest) ≡ rest
    past [] = refl
    past (x ∷ xs) = past xs

-- the digest at an index, and the later ones
pub at_index : {D : Type 0} (encoding : D → List ℕ) (ds : List D) (i : ℕ) (any : D) (d : List ℕ) (rest : List (List ℕ))
    → drop i (map encoding ds) ≡ d ∷ rest → (encoding (get_or ds i any) ≡ d) × (drop (i + 1) (map encoding ds) ≡ rest)
at_index encoding [] zero any d rest is = absurd cc
at_index encoding [] (suc i) any d rest is = absurd cc
at_index encoding (e ∷ ds) zero any d rest is = (head_is (encoding e) d (map encoding ds) rest is, tail_is (encoding e) d (map encoding ds) rest is)
  where
    head_is : (x y : List ℕ) (xs ys : List (List ℕ)) → x ∷ xs ≡ y ∷ ys → x ≡ y
    head_is x y xs ys same = cc

    tail_is : (x y : List ℕ) (xs ys : List (List ℕ)) → x ∷ xs ≡ y ∷ ys → xs ≡ ys
    tail_is x y xs ys same = cc
at_index encoding (e ∷ ds) (suc i) any d rest is =
    let later = at_index encoding ds i any d rest is in
    let next : suc i + 1 ≡ suc (i + 1) = omega arith in
    (later.0, ap (λ n. drop n (map encoding (e ∷ ds))) next ∙ later.1)

pub none_at : {D : Type 0} (encoding : D → List ℕ) (ds : List D) (i : ℕ) (d : List ℕ) (rest : List (List ℕ)) → length ds ≤ i
    → drop i (map encoding ds) ≡ d ∷ rest → ⊥
none_at encoding [] zero d rest le is = absurd cc
none_at encoding [] (suc i) d rest le is = absurd cc
none_at encoding (e ∷ ds) zero d rest le is = absurd (omega (arith, le))
none_at encoding (e ∷ ds) (suc i) d rest le is = none_at encoding ds i d rest (omega (arith, le)) is
