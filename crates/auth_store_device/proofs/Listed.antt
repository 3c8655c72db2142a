-- Calls in blocks of which all but the last are full.
use Rattle.std.proofs.Common.{◌≡◌, ℕ, zero, suc, ◌+◌, ◌-◌, ◌*◌, ◌/◌}
use Rattle.std.proofs.Common.{◌%◌, ◌<◌, ◌≤◌, List, [], ◌∷◌, ◌++◌, length, get_or}
use Rattle.std.proofs.Common.{◌∙◌, ap, sym, refl, arith, append_assoc, length-append}
use Rattle.std.specs.List.{flat_map}
use Rattle.std.proofs.lemmas.List.{get_or_append_left, get_or-append_right}
use Rattle.std.proofs.lemmas.List.Elements.{All-head, All-tail}
use Rattle.std.proofs.lemmas.Nat.{div-add-mod', mod_below}
use Rattle.std.specs.declared.alloc.Global.{Global}
use Rattle.std.specs.declared.vec.Vec.{Vec}
use Rattle.auth_store_device.specs.declared.kept.Kept.{Kept}
use Rattle.auth_store_device.specs.Listings.{AreFull, block_calls, calls_in}

abbrev IsFull : Vec Kept Global → Type 0
IsFull block = length block.items ≡ block_calls

abbrev of_full : List (Vec Kept Global) → List Kept
of_full full = flat_map (λ (block : Vec Kept Global). block.items) full

-- how many calls full blocks have
length-full : (full : List (Vec Kept Global)) → AreFull full → length (of_full full) ≡ length full * block_calls
length-full [] are = refl
length-full (block ∷ later) are =
    omega (arith, length-append block.items (of_full later), All-head IsFull block later are, length-full later (All-tail IsFull block later are))

-- the call at a place of a full block
at-full : (full : List (Vec Kept Global)) (last : List Kept) (block within : ℕ) (e : Vec Kept Global) (d : Kept) → AreFull full → block < length full
    → within < block_calls → get_or (calls_in full last) (block * block_calls + within) d ≡ get_or (get_or full block e).items within d
at-full [] last block within e d are there below = absurd (omega (arith, there))
at-full (first ∷ later) last zero within e d are there below =
    let here : within < length first.items = omega (arith, below, All-head IsFull first later are) in
    ap (λ k. get_or (calls_in (first ∷ later) last) k d) (omega arith)
    ∙ get_or_append_left (first.items ++ of_full later) last d within (omega (arith, here, length-append first.items (of_full later)))
    ∙ get_or_append_left first.items (of_full later) d within here
at-full (first ∷ later) last (suc block) within e d are there below =
    let place = suc block * block_calls + within in
    let behind : place - block_calls ≡ block * block_calls + within = omega arith in
    ap (λ l. get_or l place d) (append_assoc first.items (of_full later) last)
    ∙ get_or-append_right first.items (calls_in later last) block_calls place d (All-head IsFull first later are) (omega arith)
    ∙ ap (λ k. get_or (calls_in later last) k d) behind
    ∙ at-full later last block within e d (All-tail IsFull first later are) (omega (arith, there)) below

-- and at a place of the last block
at-last : (full : List (Vec Kept Global)) (last : List Kept) (within : ℕ) (d : Kept) → AreFull full
    → get_or (calls_in full last) (length full * block_calls + within) d ≡ get_or last within d
at-last full last within d are =
    let before = length full * block_calls in
    let behind : before + within - before ≡ within = omega arith in
    get_or-append_right (of_full full) last before (before + within) d (length-full full are) (omega arith) ∙ ap (λ k. get_or last k d) behind

-- a place is found by its block and by where it is within that
pub in-full : (full : List (Vec Kept Global)) (last : List Kept) (place : ℕ) (e : Vec Kept Global) (d : Kept) → AreFull full
    → place / block_calls < length full
    → get_or (calls_in full last) place d ≡ get_or (get_or full (place / block_calls) e).items (place % block_calls) d
in-full full last place e d are there =
    ap (λ k. get_or (calls_in full last) k d) (sym (div-add-mod' place block_calls))
    ∙ at-full full last (place / block_calls) (place % block_calls) e d are there (mod_below place block_calls (omega arith))

-- behind the full blocks there is the last one alone, as it has no more calls than they
is-last : (full : List (Vec Kept Global)) (last : List Kept) (place : ℕ) → AreFull full → length last ≤ block_calls
    → place < length (calls_in full last) → length full ≤ place / block_calls
    → (place ≡ length full * block_calls + place % block_calls) × (place % block_calls < length last)
is-last full last place are few there behind =
    let parts = div-add-mod' place block_calls in
    let within : place % block_calls < block_calls = mod_below place block_calls (omega arith) in
    let many : length (calls_in full last) ≡ length full * block_calls + length last =
    omega (arith, length-append (of_full full) last, length-full full are) in
    let block : place / block_calls ≡ length full = omega (arith, parts, within, many, few, there, behind) in
    (omega (arith, parts, block), omega (arith, parts, block, many, there))

-- so a place behind the full blocks is one of the last
pub below-last : (full : List (Vec Kept Global)) (last : List Kept) (place : ℕ) → AreFull full → length last ≤ block_calls
    → place < length (calls_in full last) → length full ≤ place / block_calls → place % block_calls < length last
below-last full last place are few there behind = (is-last full last place are few there behind).1

-- and there its call lies
pub in-last : (full : List (Vec Kept Global)) (last : List Kept) (place : ℕ) (d : Kept) → AreFull full → length last ≤ block_calls
    → place < length (calls_in full last) → length full ≤ place / block_calls
    → get_or (calls_in full last) place d ≡ get_or last (place % block_calls) d
in-last full last place d are few there behind =
    ap (λ k. get_or (calls_in full last) k d) (is-last full last place are few there behind).0
    ∙ at-last full last (place % block_calls) d are
