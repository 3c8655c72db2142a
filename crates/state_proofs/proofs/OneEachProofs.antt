-- One string a site, in a canonical root that is rebuilt from a proof over a range or from a witness.
use Rattle.std.proofs.Common.{◌≡◌, ⊎_elim, ℕ, ◌%◌, ◌≤◌, ltb, Bool, true, false, List, length, Option, None, Some}
use Rattle.std.proofs.Common.{option_map, IfSome, refl, arith}
use Rattle.merkle_forest.specs.Forest.{Tree, Rule}
use Rattle.merkle_forest.specs.Hashing.{Hash}
use Rattle.merkle_forest.specs.Made.{Site, at_pending, at_partial, Made, bytes, strings}
use Rattle.merkle_forest.specs.Perfect.{IsPairing}
use Rattle.merkle_forest.specs.declared.bagging.Bagging.TheVariants.{BackwardFold}
use Rattle.merkle_theory.specs.Laws.MadeTrees.{choose}
use Rattle.merkle_theory.specs.MadeRoots.{peaks_of, read_root}
use Rattle.merkle_theory.specs.MadeTrees.{Elements, from}
use Rattle.merkle_theory.specs.OneEach.{OneEach}
use Rattle.merkle_theory.specs.RangeCounts.{range_outer}
use Rattle.state_theory.specs.Canonical.{Setting}
use Rattle.state_theory.specs.MadeCanonical.{if_made, next_made, canonical_made, chunk_made}
use Rattle.state_theory.specs.MadeGrafted.{grafted_over, grafted_names}
use Rattle.state_theory.specs.MadeRanges.{held_or_made, is_covered, range_pending, range_partial, range_over, range_strings}
use Rattle.state_theory.specs.Verified.{Shown, shown_bits, stop_of, covering, full_shown, graftable_shown, given_by, shown_grafted, RangeParts}
use Rattle.state_theory.specs.Verifier.{claimed_chunk}
use Rattle.state_proofs.specs.Witness.{WitnessParts, witnessed_made}
use Rattle.state_theory.specs.Laws.OneEachLists.{IsOne, none_one}
use Rattle.state_theory.specs.Laws.OneEachTrees.{part_of, of_part, grafted_is_over}
use Rattle.state_theory.specs.Laws.OneEachBags.{IsOfPart}
use Rattle.state_theory.specs.Laws.OneEachRoots.{root_read, grafted_naming}
use Rattle.state_theory.specs.Laws.OneEachCanonical.{OfPart, HasOne, canonical_one, chunk_one, if_one, next_one}

-- nothing is asked of a node's plain string
abbrev Any : ℕ → Tree → List ℕ → Type 0
Any first node u = Unit {0}

-- of a grafted tree of so many leaves
abbrev OfGrafted : Rule → ℕ → Site → List ℕ → Type 0
OfGrafted rule n = IsOfPart Any (Unit {0}) 4 (peaks_of rule n)

abbrev IsGraftedRoot : Hash → Rule → ℕ → Made → Type 0
IsGraftedRoot hash rule n made = IsOne (OfGrafted rule n) (strings hash made)

grafted_read : (hash : Hash) (rule : Rule) → IsPairing rule
    → (level : ℕ) (chunk : ℕ → List ℕ) (n inactive start stop outer : ℕ) (claimed : Elements)
    (digests : List (List ℕ))
    → IfSome (read_root grafted_names (grafted_over level chunk) BackwardFold rule n inactive start stop claimed outer digests)
    (IsGraftedRoot hash rule n)
grafted_read hash rule pairs level chunk n inactive start stop outer claimed digests =
    root_read hash rule pairs 4 grafted_names grafted_naming (λ high. high ≤ level) (grafted_over level chunk) Any (Unit {0})
    (grafted_is_over hash level chunk) BackwardFold n inactive (λ first node u. tt) claimed start stop outer digests

-- a digest that is held, or made of the chunk
held_one : (hash : Hash) (part : ℕ) (site : Site) (own : List ℕ) → part_of site ≡ part → (is_made : Bool) (held : Option (List ℕ))
    → HasOne hash part (held_or_made (chunk_made site own) is_made held)
held_one hash part site own is is_made None = tt
held_one hash part site own is true (Some digest) = chunk_one hash site own part is
held_one hash part site own is false (Some digest) = none_one (OfPart part)

-- a canonical root over a given root of the operations' tree
over_one : (hash : Hash) (rule : Rule) (n : ℕ) (operations_root : List ℕ) (root : Made) (pending : Option Made) (next : ℕ) (partial : Option Made)
    → IsGraftedRoot hash rule n root → HasOne hash 1 pending → HasOne hash 2 partial
    → OneEach (strings hash (canonical_made (record {
      operations = bytes operations_root;
      grafted = root;
      pending_chunk = pending;
      partial_chunk = option_map (λ made. (next, made)) partial;
    })))
over_one hash rule n operations_root root pending next partial one has_pending has_partial =
    canonical_one hash (record {
      operations = bytes operations_root;
      grafted = root;
      pending_chunk = pending;
      partial_chunk = option_map (λ made. (next, made)) partial;
    })
    (λ s u. ⊥) (OfGrafted rule n) (none_one (λ s u. ⊥)) one (if_one hash 1 pending has_pending) (next_one hash 2 next partial has_partial)
    (λ s u here. absurd here)
    (λ s u here. ⊎_elim (λ node. omega (arith, of_part Any (Unit {0}) node.0 node.1 s u node.3)) (λ is. omega (arith, is)) here)
    (λ s u v here there. absurd here)

-- where there is no root no string is rebuilt
if_root : (hash : Hash) (P : Made → Type 0) (over : Made → Made) → ((root : Made) → P root → OneEach (strings hash (over root)))
    → (got : Option Made) → IfSome got P → OneEach (strings hash (if_made (option_map over got)))
if_root hash P over each None is = (none_one (λ s u. ⊥)).one
if_root hash P over each (Some root) is = each root is

-- the strings rebuilt from a proof over a range
pub shown_one : (setting : Setting) (proof : RangeParts) (shown : Shown) → IsPairing setting.rule → OneEach (range_strings setting proof shown)
shown_one setting proof shown pairs =
    let hash : Hash = setting.hash in
    let n : ℕ = proof.leaves in
    let level : ℕ = setting.grafting_height in
    let graftable : ℕ = graftable_shown setting.rule level proof in
    let full : ℕ = full_shown proof shown in
    let chunk : ℕ → List ℕ = claimed_chunk (given_by level graftable shown) shown.width in
    let outer : ℕ = range_outer BackwardFold shown.start (stop_of shown) proof.inactive (peaks_of setting.rule n) in
    if_root hash (IsGraftedRoot hash setting.rule n) (range_over setting proof shown)
    (λ root one. over_one hash setting.rule n proof.operations_root root (range_pending graftable proof shown) (n % shown_bits shown)
    (range_partial proof shown) one
    (held_one hash 1 at_pending (covering shown graftable) refl (is_covered shown graftable) proof.pending)
    (held_one hash 2 at_partial (covering shown full) refl (is_covered shown full) proof.partial))
    (shown_grafted setting.rule level proof shown)
    (choose (λ got. IfSome got (IsGraftedRoot hash setting.rule n)) (ltb 0 (length shown.operations))
    (read_root grafted_names (grafted_over level chunk) BackwardFold setting.rule n proof.inactive shown.start (stop_of shown)
    (from shown.start shown.operations) outer proof.digests) None
    (λ some. grafted_read hash setting.rule pairs level chunk n proof.inactive shown.start (stop_of shown) outer (from shown.start shown.operations)
    proof.digests)
    (λ none. tt))

-- a digest that a witness holds
held_if : (hash : Hash) (part : ℕ) (held : Option (List ℕ)) → IsOne (OfPart part) (strings hash (if_made (option_map (λ digest. bytes digest) held)))
held_if hash part None = none_one (OfPart part)
held_if hash part (Some digest) = none_one (OfPart part)

held_next : (hash : Hash) (part : ℕ) (held : Option (ℕ × List ℕ))
    → IsOne (OfPart part) (strings hash (next_made (option_map (λ x. (x.0, bytes x.1)) held)))
held_next hash part None = none_one (OfPart part)
held_next hash part (Some x) = none_one (OfPart part)

-- and those rebuilt from a witness
pub witnessed_one : (hash : Hash) (witness : WitnessParts) (operations : List ℕ) → OneEach (strings hash (witnessed_made witness operations))
witnessed_one hash witness operations =
    canonical_one hash (record {
      operations = bytes operations;
      grafted = bytes witness.grafted_root;
      pending_chunk = option_map (λ digest. bytes digest) witness.pending;
      partial_chunk = option_map (λ x. (x.0, bytes x.1)) witness.partial;
    })
    (λ s u. ⊥) (λ s u. ⊥) (none_one (λ s u. ⊥)) (none_one (λ s u. ⊥)) (held_if hash 1 witness.pending) (held_next hash 2 witness.partial)
    (λ s u here. absurd here) (λ s u here. absurd here) (λ s u v here there. absurd here)
