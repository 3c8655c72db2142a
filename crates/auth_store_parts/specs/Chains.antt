-- How a batch is checked against the state before it: by a walk over the keys that it names, which compares the chain
-- of next keys in the old state with the one in the new.
--
-- A pointer stands on each chain: at the key of the first entry that was not passed yet, or at none, behind the last
-- one.
use Rattle.std.specs.Prelude.{ℕ, ◌+◌, Bool, true, false, ◌&&◌, ◌||◌, not, if◌then◌else◌, List, [], ◌∷◌, Option, None}
use Rattle.std.specs.Prelude.{Some}
use Rattle.std.specs.Prelude.{option_map, MatchOption, ◌≡◌}
use Rattle.std.specs.Borrow.{Bor}
use Rattle.std.specs.Str.{bytes_eq}
use Rattle.std.specs.Ordering.{is_lt}
use Rattle.state_ops.specs.Operation.{Operation, delete, update, ordered, commit_floor}
use Rattle.auth_store_parts.specs.Map.{Map, key_order, entry_of}

abbrev pub Pointer : Type 0
Pointer = Option (List ℕ)

-- the first key
abbrev pub first_of : Map → Pointer
first_of [] = None
first_of (e ∷ state) = Some e.0

-- the next key of a key, where it stands behind it; the last one's is the first
abbrev pub behind : List ℕ → List ℕ → Pointer
behind key next = if is_lt (key_order key next) then Some next else None

-- whether the pointer stands at the key
abbrev pub is_at_key : Pointer → List ℕ → Bool
is_at_key None key = false
is_at_key (Some at) key = bytes_eq at key

-- whether it has passed the key
abbrev pub is_past : Pointer → List ℕ → Bool
is_past None key = true
is_past (Some at) key = is_lt (key_order key at)

-- whether it is behind the last entry
abbrev pub is_end : Pointer → Bool
is_end None = true
is_end (Some at) = false

-- whether two pointers stand at one key
abbrev pub is_one : Pointer → Pointer → Bool
is_one p None = is_end p
is_one p (Some key) = is_at_key p key

-- the first key after a batch, told by its last operation: the next key of the greatest key that it updates is the
-- first one, or that key has others behind it, and the first one is as before; where nothing is updated, nothing is
-- left
abbrev pub first_by : Pointer → Operation → Pointer
first_by first (delete k) = None
first_by first (update (ordered k v n)) = if is_lt (key_order k n) then first else Some n
first_by first (commit_floor m f) = None

abbrev pub first_after : Pointer → List Operation → Pointer
first_after first [] = first
first_after first (operation ∷ []) = first_by first operation
first_after first (operation ∷ other ∷ later) = first_after first (other ∷ later)

-- how many operations stand before the first that is no delete
abbrev pub deletes_in_front : List Operation → ℕ
deletes_in_front [] = 0
deletes_in_front (delete k ∷ later) = deletes_in_front later + 1
deletes_in_front (update fields ∷ later) = 0
deletes_in_front (commit_floor m f ∷ later) = 0

-- whether the next key of a key stands behind it, or is the first one
abbrev pub closes : Pointer → List ℕ → List ℕ → Bool
closes first_new key next = is_lt (key_order key next) || is_at_key first_new next

-- a key that goes, with its value and its next key: it is the next one of the old chain, and the new one has passed it
abbrev pub over_delete : Option (List ℕ × List ℕ) → List ℕ → (Pointer → Pointer → Bool) → Pointer → Pointer → Bool
over_delete None k go p q = false
over_delete (Some e) k go p q = (is_at_key p k && is_past q k) && go (behind k e.1) q

-- a key that comes: it is the next one of the new chain, and the old one has passed it; or one whose fields change: up
-- to there both chains are one
abbrev pub over_update : Pointer → Option (List ℕ × List ℕ) → List ℕ → List ℕ → List ℕ → (Pointer → Pointer → Bool)
    → Pointer → Pointer → Bool
over_update first_new None k v n go p q =
    ((is_at_key q k && is_past p k) && closes first_new k n) && go p (behind k n)
over_update first_new (Some e) k v n go p q =
    (not (bytes_eq e.0 v && bytes_eq e.1 n) && ((is_one p q && not (is_past p k)) && closes first_new k n))
    && go (behind k e.1) (behind k n)

-- both chains end the same way
abbrev pub ends : Pointer → Pointer → Pointer → Pointer → Bool
ends first_old first_new p q = is_one p q && (is_end p || is_one first_new first_old)

-- the walk over deletes alone
abbrev pub over_deletes : Map → Pointer → Pointer → List Operation → Pointer → Pointer → Bool
over_deletes old first_old first_new [] p q = ends first_old first_new p q
over_deletes old first_old first_new (delete k ∷ deletes) p q =
    over_delete (entry_of old k) k (over_deletes old first_old first_new deletes) p q
over_deletes old first_old first_new (update fields ∷ deletes) p q = false
over_deletes old first_old first_new (commit_floor m f ∷ deletes) p q = false

-- the walk over the deletes below an update, that update, and the rest
abbrev pub up_to_update : Map → Pointer → List ℕ → List ℕ → List ℕ → (List Operation → Pointer → Pointer → Bool)
    → List Operation → Pointer → Pointer → Bool
up_to_update old first_new k v n go [] p q = over_update first_new (entry_of old k) k v n (go []) p q
up_to_update old first_new k v n go (delete l ∷ deletes) p q =
    if is_lt (key_order l k) then over_delete (entry_of old l) l (up_to_update old first_new k v n go deletes) p q
    else over_update first_new (entry_of old k) k v n (go (delete l ∷ deletes)) p q
up_to_update old first_new k v n go (update fields ∷ deletes) p q = false
up_to_update old first_new k v n go (commit_floor m f ∷ deletes) p q = false

-- the walk over updates and deletes, each in ascending order of keys
abbrev pub walk : Map → Pointer → Pointer → List Operation → List Operation → Pointer → Pointer → Bool
walk old first_old first_new [] deletes p q = over_deletes old first_old first_new deletes p q
walk old first_old first_new (delete k ∷ updates) deletes p q = false
walk old first_old first_new (update (ordered k v n) ∷ updates) deletes p q =
    up_to_update old first_new k v n (walk old first_old first_new updates) deletes p q
walk old first_old first_new (commit_floor m f ∷ updates) deletes p q = false

-- whether updates and deletes are what leads from the old state to a new one with this first key
abbrev pub is_walk : Map → Pointer → List Operation → List Operation → Bool
is_walk old first_new updates deletes = walk old (first_of old) first_new updates deletes (first_of old) first_new

-- where a pointer of the code stands, given how its keys are encoded
abbrev pub pointer : {K : Type 0} → (K → List ℕ) → Option (Bor K) → Pointer
pointer key at = option_map (λ k. key k.now) at

-- a step of a walk leads to these pointers, from which the walk goes on; or it fails, whatever comes
abbrev pub LeadsTo : {K : Type 0} → (K → List ℕ) → ((Pointer → Pointer → Bool) → Bool)
    → Option (Option (Bor K) × Option (Bor K)) → Type 0
LeadsTo key step found = MatchOption found ((go : Pointer → Pointer → Bool) → step go ≡ false)
    (λ passed. (go : Pointer → Pointer → Bool) → step go ≡ go (pointer key passed.0) (pointer key passed.1))

-- a walk up to an update passes some deletes: what is left of them, and the pointers at the update; or it fails
abbrev pub LeadsUp : {K A : Type 0} → (K → List ℕ) → (List A → List Operation) → Map → List ℕ → List Operation
    → Pointer → Pointer → Option ((Option (Bor K) × Option (Bor K)) × Bor (List A)) → Type 0
LeadsUp key meanings old k deletes p q found = MatchOption found
    ((first_new : Pointer) (v n : List ℕ) (go : List Operation → Pointer → Pointer → Bool)
    → up_to_update old first_new k v n go deletes p q ≡ false)
    (λ passed. (first_new : Pointer) (v n : List ℕ) (go : List Operation → Pointer → Pointer → Bool)
    → up_to_update old first_new k v n go deletes p q
    ≡ over_update first_new (entry_of old k) k v n (go (meanings passed.1.now))
    (pointer key passed.0.0) (pointer key passed.0.1))
