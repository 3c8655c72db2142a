-- The canonical root of a state part by part, and what a proof holds of these parts.
use Rattle.std.proofs.Common.{◌≡◌, inl, inr, ⊎_elim, ℕ, zero, suc, ◌+◌, ◌*◌, ◌/◌, ◌%◌, ◌^◌, ◌<◌, ◌≤◌, eqb, ltb, cond}
use Rattle.std.proofs.Common.{◌&&◌, Bool, true, false, List, [], ◌∷◌, length, Option, None, Some, option_map, IfSome}
use Rattle.std.proofs.Common.{◌↔◌, refl, sym, ◌∙◌, ap, subst, arith}
use Rattle.std.specs.Prelude.{slice_get, slice_index_or}
use Rattle.std.specs.List.{AllByRecursion}
use Rattle.std.proofs.lemmas.Bool.{cases_lt}
use Rattle.std.proofs.Math.Nat.{div-add-mod, mul-le-mul_left}
use Rattle.merkle_forest.specs.declared.bagging.Bagging.TheVariants.{BackwardFold}
use Rattle.merkle_forest.specs.Forest.{Tree, height, leaf_count, leaves, Rule, forest_of}
use Rattle.merkle_forest.specs.Hashing.{Hash}
use Rattle.merkle_forest.specs.Laws.Trees.{length-located}
use Rattle.merkle_forest.specs.Made.{Site, at_pending, at_partial, Made, value}
use Rattle.merkle_forest.specs.Laws.Matching.{Agrees}
use Rattle.merkle_forest.specs.Nodes.{IsNodeAt, HasNode, nodes_of_height}
use Rattle.merkle_forest.specs.Perfect.{IsPairing}
use Rattle.merkle_forest.specs.Trees.{Located, located, plain_digest, inactive_peaks, tree_root}
use Rattle.merkle_theory.specs.Laws.MadeTrees.{AgreeOver, value_plain}
use Rattle.merkle_theory.specs.Laws.MadeRoots.{peak_count}
use Rattle.merkle_theory.specs.Laws.Sound.{all_parts}
use Rattle.merkle_theory.specs.Laws.Values.{value_root}
use Rattle.merkle_theory.specs.MadeTrees.{Elements, whole, plain_over}
use Rattle.state_theory.specs.Canonical.{Setting, State, chunk_bits, full_chunks, next_bit, chunks, chunk}
use Rattle.state_theory.specs.Canonical.{forest, peaks, grafted_inactive, grafted_digests, grafted_root}
use Rattle.state_theory.specs.Canonical.{operations_root, pending_digest, partial_digest, canonical_string}
use Rattle.state_theory.specs.Canonical.{canonical_root}
use Rattle.state_theory.specs.Grafting.{grafted_digest}
use Rattle.state_theory.specs.Laws.MadeCanonical.{SizedIf, SizedNext, MatchIf, MatchNext, value_canonical}
use Rattle.state_theory.specs.Laws.MadeStates.{value_grafted, told_in}
use Rattle.state_theory.specs.MadeCanonical.{if_made, next_made, chunk_made}
use Rattle.state_theory.specs.MadeGrafted.{grafted_over, grafted_names}
use Rattle.state_theory.specs.MadeRanges.{held_or_made}
use Rattle.state_theory.specs.MadeStates.{operations_names, made_operations, made_chunk, made_grafted, made_pending, made_partial, made_state}
use Rattle.state_theory.specs.ShownChunks.{FitsChunk}
use Rattle.state_theory.specs.Laws.ChunkCounts.{inactive-few}
use Rattle.state_theory.specs.Laws.Heights.{pow_le}

-- digests of chunks, as they are held, made and given
pub held_value : (hash : Hash) (site : Site) (chunk : List ℕ) (There Covered : Type 0) (test : Bool) (held : Option (List ℕ))
    → (test ≡ true → Covered)
    → FitsChunk hash chunk There Covered held → option_map (value hash) (held_or_made (chunk_made site chunk) test held) ≡ held
held_value hash site chunk There Covered test None covered fits = refl
held_value hash site chunk There Covered true (Some d) covered fits = ap (λ digest. Some digest) (sym (fits.1 (covered refl)))
held_value hash site chunk There Covered false (Some d) covered fits = refl

pub held_sized : (hash : Hash) → ((xs : List ℕ) → length (hash xs) ≡ 32) → (site : Site) (chunk : List ℕ) (test : Bool) (held : Option (List ℕ))
    → IfSome held (λ digest. length digest ≡ 32) → SizedIf hash (held_or_made (chunk_made site chunk) test held)
held_sized hash sized site chunk test None is = tt
held_sized hash sized site chunk true (Some d) is = sized chunk
held_sized hash sized site chunk false (Some d) is = is

pub next_sized : (hash : Hash) (n : ℕ) (made : Option Made) → SizedIf hash made → SizedNext hash (option_map (λ m. (n, m)) made)
next_sized hash n None is = tt
next_sized hash n (Some made) is = is

pub some_sized : (hash : Hash) → ((xs : List ℕ) → length (hash xs) ≡ 32) → (site : Site) (chunk : List ℕ) (test : Bool)
    → SizedIf hash (cond test (Some (chunk_made site chunk)) None)
some_sized hash sized site chunk true = sized chunk
some_sized hash sized site chunk false = tt

pub none_sized : (hash : Hash) → ((xs : List ℕ) → length (hash xs) ≡ 32) → (site : Site) (chunk : List ℕ) (test : Bool)
    → SizedIf hash (cond test None (Some (chunk_made site chunk)))
none_sized hash sized site chunk true = tt
none_sized hash sized site chunk false = sized chunk

pub some_value : (hash : Hash) (site : Site) (chunk : List ℕ) (test : Bool)
    → option_map (value hash) (cond test (Some (chunk_made site chunk)) None) ≡ cond test (Some (hash chunk)) None
some_value hash site chunk true = refl
some_value hash site chunk false = refl

pub none_value : (hash : Hash) (site : Site) (chunk : List ℕ) (test : Bool)
    → option_map (value hash) (cond test None (Some (chunk_made site chunk))) ≡ cond test None (Some (hash chunk))
none_value hash site chunk true = refl
none_value hash site chunk false = refl

-- a digest that is held has the form of what is made
pub match_made : (hash : Hash) (site : Site) (chunk real : List ℕ) (test : Bool) (held : Option (List ℕ)) (made : Option Made)
    → ((m : Made) → made ≡ Some m → m ≡ chunk_made site real) → MatchIf hash (held_or_made (chunk_made site chunk) test held) made
match_made hash site chunk real test None made is = tt
match_made hash site chunk real true (Some d) None is = tt
match_made hash site chunk real false (Some d) None is = tt
match_made hash site chunk real true (Some d) (Some m) is =
    let Form : Made → Type 0 = λ x. MatchIf hash (Some (chunk_made site chunk)) (Some x) in subst Form (sym (is m refl)) (refl, λ same. tt)
match_made hash site chunk real false (Some d) (Some m) is = tt

pub match_next : (hash : Hash) (n k : ℕ) (one other : Option Made) → MatchIf hash one other
    → MatchNext hash (option_map (λ m. (n, m)) one) (option_map (λ m. (k, m)) other)
match_next hash n k None other is = tt
match_next hash n k (Some one) None is = tt
match_next hash n k (Some one) (Some other) is = is

pub some_made : (site : Site) (real : List ℕ) (test : Bool) (m : Made) → cond test (Some (chunk_made site real)) None ≡ Some m
    → m ≡ chunk_made site real
some_made site real true m is = let e : Some (chunk_made site real) ≡ Some m = is in cc
some_made site real false m is = let e : None ≡ Some m = is in cc

pub none_made : (site : Site) (real : List ℕ) (test : Bool) (m : Made) → cond test None (Some (chunk_made site real)) ≡ Some m
    → m ≡ chunk_made site real
none_made site real true m is = let e : None ≡ Some m = is in cc
none_made site real false m is = let e : Some (chunk_made site real) ≡ Some m = is in cc

-- where the digest of the chunk at hand is the one that is held, the chunk is the state's
pub same_pending : (hash : Hash) (site : Site) (chunk real : List ℕ) (test is_there : Bool) (held : Option (List ℕ)) → test ≡ true → is_there ≡ true
    → (held ≡ None → ⊥) → Agrees hash (if_made (held_or_made (chunk_made site chunk) test held)) (if_made (cond is_there (Some
    (chunk_made site real)) None)) → chunk ≡ real
same_pending hash site chunk real test is_there None on some has agrees = absurd (has refl)
same_pending hash site chunk real true true (Some d) on some has agrees = agrees.0
same_pending hash site chunk real true false (Some d) on some has agrees = absurd cc
same_pending hash site chunk real false is_there (Some d) on some has agrees = absurd cc

pub same_partial : (hash : Hash) (site : Site) (chunk real : List ℕ) (test is_none : Bool) (held : Option (List ℕ)) (n k : ℕ)
    → test ≡ true → is_none ≡ false
    → (held ≡ None → ⊥) → Agrees hash (next_made (option_map (λ m. (n, m)) (held_or_made (chunk_made site chunk) test held)))
    (next_made (option_map (λ m. (k, m)) (cond is_none None (Some (chunk_made site real))))) → chunk ≡ real
same_partial hash site chunk real test is_none None n k on some has agrees = absurd (has refl)
same_partial hash site chunk real true false (Some d) n k on some has agrees = agrees.1.0
same_partial hash site chunk real true true (Some d) n k on some has agrees = absurd cc
same_partial hash site chunk real false is_none (Some d) n k on some has agrees = absurd cc

pub not_none : (hash : Hash) (chunk : List ℕ) (There Covered : Type 0) (held : Option (List ℕ)) → There
    → FitsChunk hash chunk There Covered held → held ≡ None → ⊥
not_none hash chunk There Covered None here fits is = fits here
not_none hash chunk There Covered (Some d) here fits is = let e : Some d ≡ None = is in cc

pub get_some : (xs : List (List ℕ)) (i : ℕ) (x : List ℕ) → i < length xs → x ≡ slice_index_or xs i [] → slice_get xs i ≡ Some x
get_some [] i x lt is = absurd (omega (arith, lt))
get_some (y ∷ ys) zero x lt is = ap (λ z. Some z) (sym is)
get_some (y ∷ ys) (suc i) x lt is = get_some ys i x (omega (arith, lt)) is

-- what a branch of the forest tells, over a location of the range
pub told_at : (Told : ℕ → ℕ → Type 0) (claimed real : Elements) (start stop l first : ℕ) (node : Tree) → start ≤ l → l < stop → first ≤ l
    → l < first + leaf_count node → 0 < height node → (trees : List Tree) → IsNodeAt first node trees
    → AllByRecursion (λ (peak : Located). AgreeOver Told claimed real start stop peak.0 peak.1) (located trees) → Told first (height node)
told_at Told claimed real start stop l first node from to low high tall [] stands all = absurd stands
told_at Told claimed real start stop l first node from to low high tall (t ∷ ts) stands all =
    let parts = all_parts Told claimed real start stop (located ts) ((leaves ts, t) ∷ []) all in
    ⊎_elim (λ within. told_in Told claimed real start stop l first node from to low high tall (leaves ts) t within parts.1.0)
    (λ rest. told_at Told claimed real start stop l first node from to low high tall ts rest parts.0) stands

pub string_same : (hash : Hash) (a b c d : List ℕ) (p q : Option (List ℕ)) (n : ℕ) (r s : Option (List ℕ)) → a ≡ b
    → c ≡ d → p ≡ q → r ≡ s
    → hash (canonical_string a c p n r) ≡ hash (canonical_string b d q n s)
string_same hash a b c d p q n r s one two three four =
    ap (λ x. hash (canonical_string x c p n r)) one ∙ ap (λ x. hash (canonical_string b x p n r)) two
    ∙ ap (λ x. hash (canonical_string b d x n r)) three ∙ ap (λ x. hash (canonical_string b d q n x)) four

-- the root of the operations' tree is the digest of what is made of them
pub value_operations : (setting : Setting) (state : State) → value setting.hash (made_operations setting state) ≡ operations_root setting state
unfolding operations_root tree_root
value_operations setting state =
    value_root setting.hash operations_names plain_over (whole state.operations) (plain_digest setting.hash state.operations)
    (value_plain setting.hash state.operations)
    BackwardFold setting.rule (length state.operations) (inactive_peaks state.floor (peaks setting state))

-- so is the root of the grafted tree
pub value_grafted_root : (setting : Setting) (state : State) → value setting.hash (made_grafted setting state) ≡ grafted_root setting state
unfolding grafted_root grafted_digests
value_grafted_root setting state =
    value_root setting.hash grafted_names (grafted_over setting.grafting_height (made_chunk setting state)) (whole state.operations)
    (grafted_digest setting.hash setting.grafting_height (chunk_bits setting) (chunks setting state) state.operations)
    (value_grafted setting.hash setting.width setting.grafting_height (chunk_bits setting) (chunks setting state) state.operations)
    BackwardFold setting.rule (length state.operations) (grafted_inactive setting state)

-- the canonical root is the digest of what is made of the state
pub value_state : (setting : Setting) (state : State) → value setting.hash (made_state setting state) ≡ canonical_root setting state
unfolding canonical_root pending_digest partial_digest
value_state setting state =
    value_canonical setting.hash (made_operations setting state) (made_grafted setting state) (made_pending setting state) (next_bit setting state)
    (made_partial setting state)
    ∙ string_same setting.hash _ _ _ _ _ _ (next_bit setting state) _ _ (value_operations setting state) (value_grafted_root setting state)
    (some_value setting.hash at_pending (chunk setting state (nodes_of_height setting.grafting_height (forest setting state)))
    (ltb (nodes_of_height setting.grafting_height (forest setting state)) (full_chunks setting state)))
    (none_value setting.hash at_partial (chunk setting state (full_chunks setting state)) (eqb (next_bit setting state) 0))

-- no power of two is 8 times 40
pub not_forty : (width grafting_height : ℕ) → 8 * width ≡ 2 ^ grafting_height → width ≡ 40 → ⊥
not_forty width grafting_height whole is =
    elim (cases_lt grafting_height 9) [
      | inl few ↦ (let le : 2 ^ grafting_height ≤ 2 ^ 8 = pow_le grafting_height 8 (omega (arith, few)) in omega (arith, whole, is, le))
      | inr many ↦ (let le : 2 ^ 9 ≤ 2 ^ grafting_height = pow_le 9 grafting_height many in omega (arith, whole, is, le))
    ]

-- where no full chunk is over the location, some leaves are left over
pub left_over : (location n bits : ℕ) → location < n → n / bits ≤ location / bits → 0 < n % bits
left_over location n bits lt le =
    omega (arith, lt, mul-le-mul_left bits le, div-add-mod location bits, div-add-mod n bits)

pub both_true : (a b : Bool) → a ≡ true → b ≡ true → (a && b) ≡ true
both_true a b one other = rw (one, other) refl

-- of the chunks of the leaves those that are graftable have their node
abbrev pub Counted : Rule → Type 0
Counted rule = (leaf_total part level : ℕ) → leaf_total ≤ 2 ^ 62 → 0 < level → level ≤ 62
    → HasNode (forest_of rule leaf_total) (part * 2 ^ level) level ↔ (part < nodes_of_height level (forest_of rule leaf_total))

pub few_inactive : (setting : Setting) (state : State) → IsPairing setting.rule → length state.operations ≤ 2 ^ 62
    → grafted_inactive setting state < 2 ^ 64
few_inactive setting state pairs few =
    omega (arith, few, inactive-few setting state, length-located (forest setting state), peak_count setting.rule pairs (length state.operations))

pub if_is : {A : Type 0} (P : A → Type 0) (got : Option A) (x : A) → got ≡ Some x → IfSome got P → P x
if_is P got x is holds = let Holds : Option _ → Type 0 = λ o. IfSome o P in subst Holds is holds
