-- The grafted tree as it is made. `chunk` gives the chunk that begins at a location.
use Rattle.std.specs.Prelude.{ℕ, ◌/◌, ◌==◌, nat_lt, Bool, true, false, List, [], ◌∷◌, replicate, slice_index_or}
use Rattle.merkle_forest.specs.Made.{at_plain, at_joined, at_grafted_root, at_grafted_fold, Made, bytes, both, hashed}
use Rattle.merkle_theory.specs.MadeTrees.{Over}
use Rattle.merkle_theory.specs.MadeRoots.{Naming}
use Rattle.state_theory.specs.SetBits.{is_zero}

-- a chunk with a set bit is joined in; for one without, the node's string stands at both sites
abbrev pub joined_in : ℕ → Made → List ℕ → Bool → Made
joined_in p string chunk true = hashed (at_joined p) (at_plain p ∷ []) string
joined_in p string chunk false = hashed (at_joined p) [] (both (bytes chunk) (hashed (at_plain p) [] string))

-- at the grafting height, below it, and above it
abbrev pub grafted_case : ℕ → Made → List ℕ → Bool → Bool → Bool → Made
grafted_case p string chunk true below zero = joined_in p string chunk zero
grafted_case p string chunk false true zero = hashed (at_plain p) [] string
grafted_case p string chunk false false zero = hashed (at_joined p) [] string

-- how a branch's string is hashed in the grafted tree
abbrev pub grafted_over : ℕ → (ℕ → List ℕ) → Over
grafted_over grafting_height chunk at high p string =
    grafted_case p string (chunk at) (high == grafting_height) (nat_lt high grafting_height) (is_zero (chunk at))

-- the sites of its root and of its folds
abbrev pub grafted_names : Naming
grafted_names = record { root_site = at_grafted_root; fold_site = at_grafted_fold }

-- the chunk that begins at a location; where there is none, zeros
abbrev pub chunk_at : ℕ → ℕ → List (List ℕ) → ℕ → List ℕ
chunk_at width bits chunks at = slice_index_or chunks (at / bits) (replicate width 0)
