-- A canonical root that a proof leads to: what the proof claims is true of the state, or strings collide.
use Rattle.std.proofs.Common.{◌≡◌, ◌⊎◌, inl, inr, ⊎_elim, ℕ, zero, suc}
use Rattle.std.proofs.Common.{◌+◌, ◌/◌, ◌==◌, ◌<◌, ◌≤◌, ◌^◌, ltb, Bool, true}
use Rattle.std.proofs.Common.{false, cond, List, [], ◌∷◌, ◌++◌, length, replicate, Option, IfSome, refl, sym, ◌∙◌, ap}
use Rattle.std.proofs.Common.{subst, arith}
use Rattle.std.specs.Prelude.{slice_index_or}
use Rattle.merkle_forest.specs.declared.bagging.Bagging.TheVariants.{BackwardFold}
use Rattle.merkle_forest.specs.Forest.{Tree, leaf, branch, height, leaf_count, Rule}
use Rattle.merkle_forest.specs.Hashing.{Hash, number, node_string}
use Rattle.merkle_forest.specs.Nodes.{IsWithin}
use Rattle.merkle_forest.specs.Laws.Nodes.{within-fits}
use Rattle.merkle_forest.specs.Perfect.{IsPairing}
use Rattle.state_theory.specs.SetBits.{is_zero}
use Rattle.state_theory.specs.Grafting.{grafted, grafted_digest}
use Rattle.merkle_forest.specs.Made.{Made, bytes, both, value, strings, Collision}
use Rattle.merkle_forest.specs.Laws.Matching.{Agrees, agrees_or_collides}
use Rattle.merkle_theory.specs.MadeTrees.{Elements, whole, branch_made, made_tree}
use Rattle.merkle_theory.specs.Laws.MadeTrees.{Sized, AllSized, AgreeOver}
use Rattle.merkle_theory.specs.MadeRoots.{made_root, read_root}
use Rattle.merkle_theory.specs.Laws.MadeRoots.{IsRoot, Tells, root_good}
use Rattle.merkle_theory.specs.Laws.Sound.{over_location, all_take, all_drop, if_some}
use Rattle.state_theory.specs.MadeGrafted.{chunk_at, joined_in, grafted_case, grafted_over, grafted_names}
use Rattle.state_theory.specs.Laws.MadeGrafted.{SameChunk, grafted_fits}
use Rattle.state_theory.specs.MadeCanonical.{CanonicalParts, if_made, next_made, canonical_made}
use Rattle.state_theory.specs.Laws.MadeCanonical.{SizedIf, SizedNext, MatchIf, MatchNext, canonical_matches}

zeros : (width : ℕ) → is_zero (replicate width 0) ≡ true
zeros zero = refl
zeros (suc width) = zeros width

-- where there is no chunk nothing is joined in
pub no_chunk : (hash : Hash) (width : ℕ) (chunks : List (List ℕ)) (i : ℕ) (d : List ℕ)
    → grafted hash (slice_index_or chunks i (replicate width 0)) d ≡ grafted hash (slice_index_or chunks i []) d
no_chunk hash width [] i d = ap (λ b. cond b d (hash (replicate width 0 ++ d))) (zeros width)
no_chunk hash width (c ∷ chunks) zero d = refl
no_chunk hash width (c ∷ chunks) (suc i) d = no_chunk hash width chunks i d

value_joined : (hash : Hash) (p : ℕ) (string : Made) (chunk : List ℕ) (none : Bool)
    → value hash (joined_in p string chunk none)
    ≡ cond none (hash (value hash string)) (hash (chunk ++ hash (value hash string)))
value_joined hash p string chunk true = refl
value_joined hash p string chunk false = refl

pub value_case : (hash : Hash) (p : ℕ) (string : Made) (chunk : List ℕ) (same below : Bool)
    → value hash (grafted_case p string chunk same below (is_zero chunk))
    ≡ cond same (grafted hash chunk (hash (value hash string))) (hash (value hash string))
value_case hash p string chunk true below = value_joined hash p string chunk (is_zero chunk)
value_case hash p string chunk false true = refl
value_case hash p string chunk false false = refl

-- where the children have the digests of the grafted tree, so has the branch
pub branch_grafted : (hash : Hash) (width grafting_height bits : ℕ) (chunks elements : List (List ℕ)) (at p : ℕ)
    (left right : Tree) (x y : Made) → value hash x ≡ grafted_digest hash grafting_height bits chunks elements at left
    → value hash y ≡ grafted_digest hash grafting_height bits chunks elements (at + leaf_count left) right
    → (let over = grafted_over grafting_height (chunk_at width bits chunks) in
    value hash (branch_made over at (height (branch p left right)) p x y)
    ≡ grafted_digest hash grafting_height bits chunks elements at (branch p left right))
branch_grafted hash width grafting_height bits chunks elements at p left right x y one other =
    let digest : ℕ → Tree → List ℕ = grafted_digest hash grafting_height bits chunks elements in
    let own : List ℕ = node_string p (digest at left) (digest (at + leaf_count left) right) in
    let string : number p ++ (value hash x ++ value hash y) ≡ own =
    ap (λ d. number p ++ (d ++ value hash y)) one ∙ ap (λ d. number p ++ (digest at left ++ d)) other in
    let same : Bool = height (branch p left right) == grafting_height in
    value_case hash p (both (bytes (number p)) (both x y)) (chunk_at width bits chunks at) same
    (ltb (height (branch p left right)) grafting_height)
    ∙ ap (λ d. cond same (grafted hash (chunk_at width bits chunks at) (hash d)) (hash d)) string
    ∙ ap (λ d. cond same d (hash own)) (no_chunk hash width chunks (at / bits) (hash own))

-- its digests are those of the grafted tree
pub value_grafted : (hash : Hash) (width grafting_height bits : ℕ) (chunks elements : List (List ℕ)) (at : ℕ) (t : Tree)
    → value hash (made_tree (grafted_over grafting_height (chunk_at width bits chunks)) (whole elements) at t)
    ≡ grafted_digest hash grafting_height bits chunks elements at t
value_grafted hash width grafting_height bits chunks elements at (leaf p) = refl
value_grafted hash width grafting_height bits chunks elements at (branch p left right) =
    let over = grafted_over grafting_height (chunk_at width bits chunks) in
    branch_grafted hash width grafting_height bits chunks elements at p left right
    (made_tree over (whole elements) at left) (made_tree over (whole elements) (at + leaf_count left) right)
    (value_grafted hash width grafting_height bits chunks elements at left)
    (value_grafted hash width grafting_height bits chunks elements (at + leaf_count left) right)

-- in a tree what a branch over a location of the range tells holds: at the grafting height the chunk is the claimed one
pub told_in : (Told : ℕ → ℕ → Type 0) (claimed real : Elements) (start stop l first : ℕ) (node : Tree)
    → start ≤ l → l < stop → first ≤ l
    → l < first + leaf_count node → 0 < height node
    → (at : ℕ) (t : Tree) → IsWithin first node at t → AgreeOver Told claimed real start stop at t
    → Told first (height node)
told_in Told claimed real start stop l first node from to low high tall at (leaf q) within agree =
    absurd (omega (arith, tall, ap height within.1))
told_in Told claimed real start stop l first node from to low high tall at (branch q a b) within agree =
    let fits = within-fits first at node (branch q a b) within in
    let parts = agree (over_location Told claimed real start stop at (branch q a b) l from to (omega (arith, fits, low))
    (omega (arith, fits, high))) in
    ⊎_elim
    (λ here. subst (λ k. Told k (height node)) (sym here.0) (subst (λ n. Told at (height n)) (sym here.1) parts.0))
    (λ inside. ⊎_elim
    (λ w. told_in Told claimed real start stop l first node from to low high tall at a w parts.1)
    (λ w. told_in Told claimed real start stop l first node from to low high tall (at
    + leaf_count a) b w parts.2) inside)
    within

-- what such a proof holds besides the range's: the root of the operations' tree and the digests of the pending and the
-- partial chunk, or these chunks where the range covers them
abbrev pub claimed_parts : List ℕ → Option Made → Option (ℕ × Made) → Made → CanonicalParts
claimed_parts operations_root pending partial root = record {
  operations = bytes operations_root;
  grafted = root;
  pending_chunk = pending;
  partial_chunk = partial;
}

module _ (hash : Hash) (hash_sized : (xs : List ℕ) → length (hash xs) ≡ 32) (width : ℕ)
    (not_forty : width ≡ 40 → ⊥) (grafting_height : ℕ) (rule : Rule) (pairs : IsPairing rule)
    (chunk chunk_claimed : ℕ → List ℕ) (wide : (at : ℕ) → length (chunk at) ≡ width)
    (wide_claimed : (at : ℕ) → length (chunk_claimed at) ≡ width)
    (operations : List (List ℕ)) (few : length operations ≤ 2 ^ 62) (inactive : ℕ) (few_inactive : inactive < 2 ^ 64)
    (operations_made : Made) (pending_made : Option Made) (partial_made : Option (ℕ × Made))
    (sized_operations : Sized hash 32 operations_made) (sized_pending : SizedIf hash pending_made)
    (sized_partial : SizedNext hash partial_made) where
  abbrev real_root : Made
  real_root =
      made_root grafted_names (grafted_over grafting_height chunk) (whole operations) BackwardFold rule
      (length operations) inactive

  -- the canonical root of the state
  abbrev state_made : Made
  state_made =
      canonical_made (record {
        operations = operations_made;
        grafted = real_root;
        pending_chunk = pending_made;
        partial_chunk = partial_made;
      })

  -- what a yes tells: the grafted tree's elements and chunks in the range, and the ends of the canonical string; the
  -- root of the grafted tree agrees with the one that is there
  abbrev pub TellsState : ℕ → ℕ → ℕ → ℕ → Elements → List ℕ → Option Made → Option (ℕ × Made) → Type 0
  TellsState leaves_claimed inactive_claimed start stop claimed operations_root pending partial =
      Tells hash 32 hash_sized (SameChunk hash hash_sized width not_forty grafting_height chunk_claimed chunk)
      (grafted_over grafting_height chunk_claimed) (grafted_over grafting_height chunk)
      (grafted_fits hash hash_sized width not_forty grafting_height chunk_claimed chunk wide_claimed wide) claimed
      (whole operations) start stop
      grafted_names BackwardFold rule (length operations) inactive leaves_claimed inactive_claimed
      × (operations_root ≡ value hash operations_made)
      × Agrees hash (both (if_made pending) (next_made partial)) (both (if_made pending_made) (next_made partial_made))

  pub state_sound : (leaves_claimed inactive_claimed start stop outer : ℕ) (claimed : Elements)
      (digests : List (List ℕ)) (operations_root : List ℕ)
      (pending : Option Made) (partial : Option (ℕ × Made))
      → AllSized 32 digests → length operations_root ≡ 32 → SizedIf hash pending → SizedNext hash partial
      → MatchIf hash pending pending_made
      → MatchNext hash partial partial_made
      → IfSome (read_root grafted_names (grafted_over grafting_height chunk_claimed) BackwardFold rule
      leaves_claimed inactive_claimed start
      stop claimed outer digests)
      (λ root. let made = canonical_made (claimed_parts operations_root pending partial root) in
      value hash made ≡ value hash state_made
      → (TellsState leaves_claimed inactive_claimed start stop claimed operations_root pending partial
      × Agrees hash root real_root)
      ⊎ Collision hash (strings hash state_made) (strings hash made))
  state_sound leaves_claimed inactive_claimed start stop outer claimed digests operations_root pending partial sized
      sized_root sp sq mp mq =
      if_some
      (IsRoot hash 32 hash_sized (SameChunk hash hash_sized width not_forty grafting_height chunk_claimed chunk)
      (grafted_over grafting_height chunk_claimed) (grafted_over grafting_height chunk)
      (grafted_fits hash hash_sized width not_forty grafting_height chunk_claimed chunk wide_claimed wide) claimed
      (whole operations) start stop
      grafted_names BackwardFold rule (length operations) inactive leaves_claimed inactive_claimed)
      (λ root. value hash (canonical_made (claimed_parts operations_root pending partial root)) ≡ value hash state_made
      → (TellsState leaves_claimed inactive_claimed start stop claimed operations_root pending partial
      × Agrees hash root real_root)
      ⊎ Collision hash (strings hash state_made)
      (strings hash (canonical_made (claimed_parts operations_root pending partial root))))
      (read_root grafted_names (grafted_over grafting_height chunk_claimed) BackwardFold rule
      leaves_claimed inactive_claimed start
      stop claimed outer digests)
      (root_good hash 32 hash_sized (SameChunk hash hash_sized width not_forty grafting_height chunk_claimed chunk)
      (grafted_over grafting_height chunk_claimed) (grafted_over grafting_height chunk)
      (grafted_fits hash hash_sized width not_forty grafting_height chunk_claimed chunk wide_claimed wide) claimed
      (whole operations) start stop
      grafted_names BackwardFold rule pairs (length operations) inactive leaves_claimed inactive_claimed outer digests
      (omega (arith, few)) few_inactive
      (all_take 32 outer digests sized, all_drop 32 outer digests sized))
      (λ root is same. let made = canonical_made (claimed_parts operations_root pending partial root) in
      ⊎_elim (λ agrees. inl ((is.1 agrees.1.1.0, agrees.1.0, agrees.1.1.1), agrees.1.1.0)) inr
      (agrees_or_collides hash (strings hash state_made) (strings hash made) made state_made
      (λ x here. here) (λ x here. here)
      (canonical_matches hash (claimed_parts operations_root pending partial root)
      (record {
        operations = operations_made;
        grafted = real_root;
        pending_chunk = pending_made;
        partial_chunk = partial_made;
      })
      (record { operations = sized_root; grafted = is.2; pending = sp; partial = sq })
      (record {
        operations = sized_operations;
        grafted = hash_sized _;
        pending = sized_pending;
        partial = sized_partial;
      })
      tt is.0 mp mq) same))
