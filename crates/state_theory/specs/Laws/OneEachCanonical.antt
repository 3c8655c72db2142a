-- One string a site, in a canonical root of parts that have one.
use Rattle.std.proofs.Common.{◌≡◌, ◌⊎◌, inl, inr, ⊎_elim, ℕ, ◌≤◌, List, [], ◌++◌, Option, None, Some, option_map}
use Rattle.std.proofs.Common.{IfSome, arith}
use Rattle.merkle_forest.specs.Hashing.{Hash}
use Rattle.merkle_forest.specs.Made.{Site, at_canonical, Made, both, value, Strings, strings}
use Rattle.merkle_theory.specs.OneEach.{OneEach}
use Rattle.state_theory.specs.MadeCanonical.{CanonicalParts, if_made, next_made, canonical_made, chunk_made}
use Rattle.state_theory.specs.Laws.OneEachLists.{IsOne, none_one, top_one, append_one}
use Rattle.state_theory.specs.Laws.OneEachTrees.{part_of}

-- a site of this part of the canonical root
abbrev pub OfPart : ℕ → Site → List ℕ → Type 0
OfPart part s u = part_of s ≡ part

-- what holds at sites of the two trees alone
abbrev pub IsOfTrees : (Site → List ℕ → Type 0) → Type 0
IsOfTrees P = (s : Site) (u : List ℕ) → P s u → 3 ≤ part_of s

-- one string a site, all of this part, which may be there
abbrev pub HasOne : Hash → ℕ → Option Made → Type 0
HasOne hash part got = IfSome got (λ made. IsOne (OfPart part) (strings hash made))

-- the canonical root's own string stands at a site of its own
pub canonical_one : (hash : Hash) (parts : CanonicalParts) (P Q : Site → List ℕ → Type 0)
    → IsOne P (strings hash parts.operations)
    → IsOne Q (strings hash parts.grafted) → IsOne (OfPart 1) (strings hash (if_made parts.pending_chunk))
    → IsOne (OfPart 2) (strings hash (next_made parts.partial_chunk)) → IsOfTrees P → IsOfTrees Q
    → ((s : Site) (u v : List ℕ) → P s u → Q s v → u ≡ v) → OneEach (strings hash (canonical_made parts))
canonical_one hash parts P Q operations grafted pending partial of_p of_q same =
    let Rest : Site → List ℕ → Type 0 = λ s u. (1 ≤ part_of s) × (part_of s ≤ 2) in
    let Later : Site → List ℕ → Type 0 = λ s u. Q s u ⊎ Rest s u in
    let All : Site → List ℕ → Type 0 = λ s u. 1 ≤ part_of s in
    let pending_strings : Strings = strings hash (if_made parts.pending_chunk) in
    let partial_strings : Strings = strings hash (next_made parts.partial_chunk) in
    let rest : IsOne Rest (pending_strings ++ partial_strings) =
    append_one (OfPart 1) (OfPart 2) pending_strings partial_strings pending partial
    (λ s u v a b. absurd (omega (arith, a, b))) Rest
    (λ s u a. (omega (arith, a), omega (arith, a))) (λ s u b. (omega (arith, b), omega (arith, b))) in
    let later : IsOne Later (strings hash parts.grafted ++ (pending_strings ++ partial_strings)) =
    append_one Q Rest (strings hash parts.grafted) (pending_strings ++ partial_strings) grafted rest
    (λ s u v a b. absurd (omega (arith, of_q s u a, b.1))) Later (λ s u a. inl a) (λ s u b. inr b) in
    let all : IsOne All (strings hash parts.operations
    ++ (strings hash parts.grafted ++ (pending_strings ++ partial_strings))) =
    append_one P Later (strings hash parts.operations) (strings hash parts.grafted
    ++ (pending_strings ++ partial_strings)) operations later
    (λ s u v a b. ⊎_elim (λ q. same s u v a q) (λ r. absurd (omega (arith, of_p s u a, r.1))) b) All
    (λ s u a. omega (arith, of_p s u a))
    (λ s u b. ⊎_elim (λ q. omega (arith, of_q s u q)) (λ r. r.0) b) in
    (top_one All at_canonical
    (value hash (both parts.operations
    (both parts.grafted (both (if_made parts.pending_chunk) (next_made parts.partial_chunk)))))
    (strings hash parts.operations ++ (strings hash parts.grafted ++ (pending_strings ++ partial_strings))) all
    (λ u here. omega (arith, here))
    (λ s u. Unit {0}) tt (λ s u here. tt)).one

-- the digest of a chunk
pub chunk_one : (hash : Hash) (site : Site) (own : List ℕ) (part : ℕ) → part_of site ≡ part
    → IsOne (OfPart part) (strings hash (chunk_made site own))
chunk_one hash site own part is =
    top_one (λ s u. ⊥) site own [] (none_one (λ s u. ⊥)) (λ u here. here) (OfPart part) is (λ s u here. absurd here)

-- a part of the canonical root that may be there
pub if_one : (hash : Hash) (part : ℕ) (got : Option Made) → HasOne hash part got
    → IsOne (OfPart part) (strings hash (if_made got))
if_one hash part None one = none_one (OfPart part)
if_one hash part (Some made) one = one

pub next_one : (hash : Hash) (part next : ℕ) (got : Option Made) → HasOne hash part got
    → IsOne (OfPart part) (strings hash (next_made (option_map (λ made. (next, made)) got)))
next_one hash part next None one = none_one (OfPart part)
next_one hash part next (Some made) one = one
