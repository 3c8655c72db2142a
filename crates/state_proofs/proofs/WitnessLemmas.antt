-- A witness leads from the root of the operations' tree to the canonical one.
use Rattle.std.proofs.Common.{◌≡◌, ◌⊎◌, inl, inr, ⊎_elim, ℕ, ◌<◌, ◌≤◌, ◌^◌, Bool, List, length, eqb, ltb, Option}
use Rattle.std.proofs.Common.{None, Some, option_map, IfSome, refl, sym, ◌∙◌, ap, arith, length-append}
use Rattle.std.proofs.Math.Nat.{div-add-mod}
use Rattle.merkle_forest.specs.Hashing.{Hash, number}
use Rattle.merkle_forest.specs.Laws.Matching.{Agrees, agrees_or_collides}
use Rattle.merkle_forest.specs.Made.{at_pending, at_partial, Made, bytes, value, strings, Collision}
use Rattle.merkle_forest.specs.Nodes.{nodes_of_height}
use Rattle.merkle_theory.specs.Laws.MadeRoots.{number_same}
use Rattle.state_theory.specs.Canonical.{Setting, State, chunk_bits, full_chunks, next_bit, chunk, forest}
use Rattle.state_theory.specs.Canonical.{operations_root, grafted_root, pending_digest, partial_digest}
use Rattle.state_theory.specs.Canonical.{canonical_string, canonical_root}
use Rattle.state_theory.specs.Laws.MadeCanonical.{SizedIf, SizedNext, MatchIf, MatchNext, canonical_matches}
use Rattle.state_theory.specs.MadeCanonical.{CanonicalParts, if_made, next_made}
use Rattle.state_theory.specs.MadeStates.{made_operations, made_grafted, made_pending, made_partial, made_state, hashed_strings}
use Rattle.state_proofs.specs.Witness.{WitnessParts, HasWitnessOf, next_of, witnessed_string, witnessed_made, honest_witness}
use Rattle.state_theory.proofs.StateParts.{value_state, value_operations, value_grafted_root, next_sized, some_sized, none_sized, some_value, none_value}

honest_string : (operations grafted : List ℕ) (pending : Option (List ℕ)) (next : ℕ) (partial : Option (List ℕ))
    → witnessed_string (record { grafted_root = grafted; pending = pending; partial = option_map (λ digest. (next, digest)) partial }) operations
    ≡ canonical_string operations grafted pending next partial
unfolding canonical_string
honest_string operations grafted pending next None = refl
honest_string operations grafted pending next (Some d) = refl

pub honest_leads : (setting : Setting) (state : State)
    → setting.hash (witnessed_string (honest_witness setting state) (operations_root setting state)) ≡ canonical_root setting state
unfolding canonical_root
honest_leads setting state =
    ap setting.hash (honest_string (operations_root setting state) (grafted_root setting state) (pending_digest setting state)
    (next_bit setting state) (partial_digest setting state))

-- without a partial chunk the next bit does not count
pub next_same : {D : Type 0} (encoding : D → List ℕ) (operations grafted : List ℕ) (pending : Option (List ℕ)) (n : ℕ) (partial : Option (ℕ × D))
    → IfSome partial (λ x. n ≡ x.0)
    → canonical_string operations grafted pending n (option_map {T = ℕ × D} (λ x. encoding x.1) partial)
    ≡ canonical_string operations grafted pending (next_of (option_map {T = ℕ × D} (λ x. (x.0, encoding x.1)) partial))
    (option_map {T = ℕ × List ℕ} (λ x. x.1) (option_map {T = ℕ × D} (λ x. (x.0, encoding x.1)) partial))
unfolding canonical_string
next_same encoding operations grafted pending n None same = refl
next_same encoding operations grafted pending n (Some x) same = ap (λ k. canonical_string operations grafted pending k (Some (encoding x.1))) same

-- the digests that a witness holds
sized_if : (hash : Hash) (held : Option (List ℕ)) → IfSome held (λ digest. length digest ≡ 32)
    → SizedIf hash (option_map (λ digest. bytes digest) held)
sized_if hash None is = tt
sized_if hash (Some d) is = is

sized_next : (hash : Hash) (held : Option (ℕ × List ℕ)) → IfSome held (λ x. length x.1 ≡ 32)
    → SizedNext hash (option_map (λ x. (x.0, bytes x.1)) held)
sized_next hash None is = tt
sized_next hash (Some x) is = is

match_if : (hash : Hash) (held : Option (List ℕ)) (made : Option Made) → MatchIf hash (option_map (λ digest. bytes digest) held) made
match_if hash None made = tt
match_if hash (Some d) None = tt
match_if hash (Some d) (Some m) = tt

match_last : (hash : Hash) (held : Option (ℕ × List ℕ)) (made : Option (ℕ × Made))
    → MatchNext hash (option_map (λ x. (x.0, bytes x.1)) held) made
match_last hash None made = tt
match_last hash (Some x) None = tt
match_last hash (Some x) (Some m) = tt

value_held : (hash : Hash) (held : Option (List ℕ)) → option_map (value hash) (option_map (λ digest. bytes digest) held) ≡ held
value_held hash None = refl
value_held hash (Some d) = refl

-- the digest of what a witness leads to is that of its string
value_parts : (hash : Hash) (operations grafted : List ℕ) (pending : Option (List ℕ)) (partial : Option (ℕ × List ℕ))
    → value hash (witnessed_made (record { grafted_root = grafted; pending = pending; partial = partial }) operations)
    ≡ hash (witnessed_string (record { grafted_root = grafted; pending = pending; partial = partial }) operations)
unfolding canonical_string
value_parts hash operations grafted None None = refl
value_parts hash operations grafted None (Some x) = refl
value_parts hash operations grafted (Some p) None = refl
value_parts hash operations grafted (Some p) (Some x) = refl

abbrev parts_of : List ℕ → Option (List ℕ) → Option (ℕ × List ℕ) → WitnessParts
parts_of root pending partial = record { grafted_root = root; pending = pending; partial = partial }

-- what a witness tells that leads to the canonical root of the state: the root that it leads from, and that what it holds agrees with what
-- is made of the state
pub record WitnessTold (setting : Setting) (state : State) (witness : WitnessParts) (operations : List ℕ) : Type 0 where
  pub root : operations ≡ operations_root setting state
  pub grafted : witness.grafted_root ≡ grafted_root setting state
  pub pending : Agrees setting.hash (if_made (option_map (λ digest. bytes digest) witness.pending)) (if_made (made_pending setting state))
  pub partial : Agrees setting.hash (next_made (option_map (λ x. (x.0, bytes x.1)) witness.partial))
      (next_made (option_map (λ m. (next_bit setting state, m)) (made_partial setting state)))

pub witness_told : (setting : Setting) → ((xs : List ℕ) → length (setting.hash xs) ≡ 32) → (state : State) (witness : WitnessParts)
    (operations : List ℕ) → HasWitnessOf 32 witness → length operations ≡ 32
    → setting.hash (witnessed_string witness operations) ≡ canonical_root setting state
    → WitnessTold setting state witness operations
    ⊎ Collision setting.hash (hashed_strings setting state) (strings setting.hash (witnessed_made witness operations))
witness_told setting hash_sized state witness operations sized root_sized same =
    let hash : Hash = setting.hash in
    let made : Made = witnessed_made witness operations in
    let real : CanonicalParts = record {
      operations = made_operations setting state;
      grafted = made_grafted setting state;
      pending_chunk = made_pending setting state;
      partial_chunk = option_map (λ m. (next_bit setting state, m)) (made_partial setting state);
    } in
    let claimed : CanonicalParts = record {
      operations = bytes operations;
      grafted = bytes witness.grafted_root;
      pending_chunk = option_map (λ digest. bytes digest) witness.pending;
      partial_chunk = option_map (λ x. (x.0, bytes x.1)) witness.partial;
    } in
    ⊎_elim
    (λ agrees. inl (record {
      root = agrees.1.0 ∙ value_operations setting state;
      grafted = agrees.1.1.0 ∙ value_grafted_root setting state;
      pending = agrees.1.1.1.0;
      partial = agrees.1.1.1.1;
    }))
    inr
    (agrees_or_collides hash (hashed_strings setting state) (strings hash made) made (made_state setting state) (λ x here. here) (λ x here. here)
    (canonical_matches hash claimed real
    (record {
      operations = root_sized;
      grafted = sized.grafted_root;
      pending = sized_if hash witness.pending sized.pending;
      partial = sized_next hash witness.partial sized.partial;
    })
    (record {
      operations = hash_sized _;
      grafted = hash_sized _;
      pending = some_sized hash hash_sized at_pending (chunk setting state (nodes_of_height setting.grafting_height (forest setting state)))
          (ltb (nodes_of_height setting.grafting_height (forest setting state)) (full_chunks setting state));
      partial = next_sized hash (next_bit setting state) (made_partial setting state) (none_sized hash hash_sized at_partial
          (chunk setting state (full_chunks setting state)) (eqb (next_bit setting state) 0));
    })
    tt tt (match_if hash witness.pending (made_pending setting state))
    (match_last hash witness.partial (option_map (λ m. (next_bit setting state, m)) (made_partial setting state))))
    (value_parts hash operations witness.grafted_root witness.pending witness.partial ∙ same ∙ sym (value_state setting state)))

-- a digest that agrees with one that is made, where both have a size, is that one
same_if : (hash : Hash) (held : Option (List ℕ)) (made : Option Made) → IfSome held (λ digest. length digest ≡ 32) → SizedIf hash made
    → Agrees hash (if_made (option_map (λ digest. bytes digest) held)) (if_made made) → held ≡ option_map (value hash) made
same_if hash None None long wide agrees = refl
same_if hash None (Some m) long wide agrees = absurd (omega (arith, ap length agrees, wide))
same_if hash (Some d) None long wide agrees = absurd (omega (arith, ap length agrees, long))
same_if hash (Some d) (Some m) long wide agrees = ap (λ x. Some x) agrees

same_next : (hash : Hash) (held : Option (ℕ × List ℕ)) (n : ℕ) (made : Option Made) → IfSome held (λ x. x.0 < 2 ^ 64) → n < 2 ^ 64
    → Agrees hash (next_made (option_map (λ x. (x.0, bytes x.1)) held)) (next_made (option_map (λ m. (n, m)) made))
    → held ≡ option_map (λ digest. (n, digest)) (option_map (value hash) made)
same_next hash None n None few low agrees = refl
same_next hash None n (Some m) few low agrees = absurd (omega (arith, ap length agrees, length-append (number n) (value hash m), eight n))
  where
    eight : (k : ℕ) → length (number k) ≡ 8
    eight k = refl
same_next hash (Some x) n None few low agrees = absurd agrees
same_next hash (Some x) n (Some m) few low agrees =
    ap (λ k. Some (k, x.1)) (number_same x.0 n few low agrees.0) ∙ ap (λ d. Some (n, d)) agrees.1

pub witness_is_honest : (setting : Setting) → ((xs : List ℕ) → length (setting.hash xs) ≡ 32) → (state : State) (witness : WitnessParts)
    (operations : List ℕ) → length state.operations ≤ 2 ^ 62 → HasWitnessOf 32 witness → IfSome witness.partial (λ x. x.0 < 2 ^ 64)
    → WitnessTold setting state witness operations → witness ≡ honest_witness setting state
unfolding pending_digest partial_digest
witness_is_honest setting hash_sized state witness operations few sized low told =
    let hash : Hash = setting.hash in
    let graftable : ℕ = nodes_of_height setting.grafting_height (forest setting state) in
    let is_pending : Bool = ltb graftable (full_chunks setting state) in
    let no_partial : Bool = eqb (next_bit setting state) 0 in
    let pending : witness.pending ≡ pending_digest setting state =
    same_if hash witness.pending (made_pending setting state) sized.pending
    (some_sized hash hash_sized at_pending (chunk setting state graftable) is_pending) told.pending
    ∙ some_value hash at_pending (chunk setting state graftable) is_pending in
    let partial : witness.partial ≡ option_map (λ digest. (next_bit setting state, digest)) (partial_digest setting state) =
    same_next hash witness.partial (next_bit setting state) (made_partial setting state) low
    (omega (arith, few, div-add-mod (length state.operations) (chunk_bits setting))) told.partial
    ∙ ap (λ o. option_map (λ digest. (next_bit setting state, digest)) o)
    (none_value hash at_partial (chunk setting state (full_chunks setting state)) no_partial) in
    ap (λ root. parts_of root witness.pending witness.partial) told.grafted
    ∙ ap (λ o. parts_of (grafted_root setting state) o witness.partial) pending
    ∙ ap (parts_of (grafted_root setting state) (pending_digest setting state)) partial
