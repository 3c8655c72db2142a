-- Digests as they are made: which strings are hashed on the way, and at which sites.
--
-- A digest is the value of a term. The term of a list, or of a state, holds everything; the term that a proof and its
-- claim lead to has the same form, but gives the digests of what it does not show as bytes. Of four leaves, and of a
-- proof of leaf 2 with the digests x and y:
--
--         root                         root                 at each site where both have a string, the two strings are
--           |                            |                  equal, or they differ. From the root down: the digests are
--         at_plain 6                   at_plain 6           equal, so the strings are, or they collide; where the
--         /        \                   /        \           strings are equal, so are the digests in them; and so on
--    at_plain 2   at_plain 5          x      at_plain 5     down to what the claim says. So the claim is true, or the
--     /     \      /     \                    /     \       strings of the left term and of the right one collide at
--    0       1    3       4                  3       y      some site.
use Rattle.std.specs.Prelude.{◌≡◌, ℕ, List, [], ◌∷◌, ◌++◌, map, Contains}
use Rattle.merkle_forest.specs.Hashing.{Hash}

-- Where a string is hashed: for the canonical root; for the root of the operations' tree, of the grafted tree, or of a
-- tree alone; for the pending and the partial chunk; for the fold of the peaks numbered a to b, of the operations' tree
-- or a tree alone, or of the grafted tree; for the node at a position, plain, or with what is joined in above and at
-- the grafting height; and for a bitmap's root and its last chunk.
pub data Site : Type 0 where
  at_canonical : Site
  at_operations_root : Site
  at_grafted_root : Site
  at_tree_root : Site
  at_pending : Site
  at_partial : Site
  at_fold : ℕ → ℕ → Site
  at_grafted_fold : ℕ → ℕ → Site
  at_plain : ℕ → Site
  at_joined : ℕ → Site
  at_bitmap_root : Site
  at_last_chunk : Site

-- bytes as they are made: they are known, or two parts one after the other, or the hash of a string at a site and, it
-- may be, at others besides
pub data Made : Type 0 where
  bytes : List ℕ → Made
  both : Made → Made → Made
  hashed : Site → List Site → Made → Made

-- the bytes
abbrev pub value : Hash → Made → List ℕ
value hash (bytes xs) = xs
value hash (both a b) = value hash a ++ value hash b
value hash (hashed site more inner) = hash (value hash inner)

-- strings, each with the site where it is hashed
abbrev pub Strings : Type 0
Strings = List (Site × List ℕ)

-- the strings that are hashed
abbrev pub strings : Hash → Made → Strings
strings hash (bytes xs) = []
strings hash (both a b) = strings hash a ++ strings hash b
strings hash (hashed site more inner) =
    (site, value hash inner) ∷ (map (λ other. (other, value hash inner)) more ++ strings hash inner)

-- at one site both lists have strings, which differ and have one digest
pub record Collision (hash : Hash) (hashed_strings rebuilt_strings : Strings) : Type 0 where
  pub site : Site
  pub one : List ℕ
  pub other : List ℕ
  pub in_hashed : Contains hashed_strings (site, one)
  pub in_rebuilt : Contains rebuilt_strings (site, other)
  pub differ : one ≡ other → ⊥
  pub same : hash one ≡ hash other
