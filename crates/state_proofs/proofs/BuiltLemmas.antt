-- What is built of a state's nodes and bits is the state's.
use Rattle.std.proofs.Common.{◌≡◌, inr, Result, Ok, Err, ⊎_elim, ℕ, ◌+◌, ◌*◌, ◌/◌, ◌%◌, ◌^◌, ◌<◌, ◌≤◌, eqb, ltb, cond}
use Rattle.std.proofs.Common.{Bool, true, false, List, length, take, drop, Option, Some, None, refl, sym, ◌∙◌, ap}
use Rattle.std.proofs.Common.{subst, arith}
use Rattle.std.specs.Prelude.{min, IfErr}
use Rattle.std.proofs.lemmas.Bool.{cases_lt, le-ltb}
use Rattle.std.proofs.Math.Nat.{div-add-mod, div-lt_iff_lt-mul, mul_comm, mul-lt-mul_of_pos_left}
use Rattle.merkle_core_parts.specs.declared.error.Error.{Error as MerkleError}
use Rattle.merkle_core_parts.specs.declared.error.Error.TheVariants.{LocationOverflow, Empty, RangeOutOfBounds, InvalidSize, LeafOutOfBounds}
use Rattle.merkle_core_parts.specs.declared.error.Error.TheVariants.{DuplicateLocation, UnsortedLocation, ElementPruned, InvalidPinnedNodes}
use Rattle.merkle_core_parts.specs.declared.error.Error.TheVariants.{StaleBatch, AncestorDropped, InvalidInactivePeaks, MissingNode, Memory as NoMemory}
use Rattle.merkle_theory.specs.MadeRoots.{peaks_of}
use Rattle.merkle_theory.specs.Plans.{Asked as Span, IsRefusalToBuild, IsWithinTree, Lookup, honest_digests, looked_up}
use Rattle.merkle_theory.specs.Ranges.{Digests, range_digests}
use Rattle.merkle_forest.specs.declared.bagging.Bagging.TheVariants.{BackwardFold}
use Rattle.merkle_forest.specs.Hashing.{Hash}
use Rattle.merkle_forest.specs.Forest.{Rule, Tree, forest_of, position}
use Rattle.merkle_forest.specs.Nodes.{IsNodeAt, nodes_of_height}
use Rattle.state_theory.specs.Bits.{chunk_of}
use Rattle.state_proofs.specs.Built.{chunks_asked, IsRefusalOfLocated, IsRefusalOfNodes, IsRefusalOfOperation}
use Rattle.state_proofs.specs.Built.{IsRefusalOfPlanned, IsRefusalOfSource, lifted, unknown_node}
use Rattle.state_theory.specs.Sources.{IsSourceOf, Source}
use Rattle.state_proofs.specs.Required.{IsPruned, Measures}
use Rattle.state_proofs.specs.declared.error.Error.{Error}
use Rattle.state_proofs.specs.declared.error.Error.TheVariants.{DataCorrupted, OperationPruned, Merkle, Memory}
use Rattle.state_proofs.specs.BuiltCode.{measures_with}
use Rattle.state_theory.specs.Canonical.{setting_with}
use Rattle.state_theory.specs.Grafting.{chunk_aligned_inactive_peaks}
use Rattle.state_theory.specs.Canonical.{Setting, State, chunk_bits, full_chunks, next_bit, chunks, chunk}
use Rattle.state_theory.specs.Canonical.{forest, peaks, grafted_digests, grafted_inactive, pending_digest}
use Rattle.state_theory.specs.Canonical.{partial_digest}
use Rattle.state_theory.specs.Honest.{grafted_range}
use Rattle.state_theory.specs.Verified.{Parts, RangeParts}
use Rattle.state_theory.specs.Laws.ChunkCounts.{aligned-few}
use Rattle.state_theory.specs.Laws.Chunks.{chunk_at}
use Rattle.state_theory.specs.Laws.Heights.{same_power}
use Rattle.state_theory.proofs.KnownNodes.{known_digests}

-- a chunk, from its bits
pub chunk_there : (setting : Setting) (state : State) (index : ℕ) → index < full_chunks setting state + cond (eqb (next_bit setting state) 0) 0 1
    → chunk setting state index ≡ chunk_of setting.width (drop (chunk_bits setting * index) state.bits)
unfolding chunks
chunk_there setting state index below =
    chunk_at setting.width (full_chunks setting state + cond (eqb (next_bit setting state) 0) 0 1) index state.bits below

-- the digest of the pending chunk, from its bits
pub built_pending : (setting : Setting) (state : State)
    → (let full : ℕ = full_chunks setting state in
    let graftable : ℕ = min (nodes_of_height setting.grafting_height (forest setting state)) full in
    cond (ltb graftable full) (Some (setting.hash (chunk_of setting.width (drop (chunk_bits setting * graftable) state.bits)))) None)
    ≡ pending_digest setting state
unfolding pending_digest
built_pending setting state =
    let full : ℕ = full_chunks setting state in
    let nodes : ℕ = nodes_of_height setting.grafting_height (forest setting state) in
    let of : ℕ
    → Option (List ℕ) = λ k. cond (ltb k full) (Some (setting.hash (chunk_of setting.width (drop (chunk_bits setting * k) state.bits)))) None in
    ⊎_elim
    (λ lt. let least : min nodes full ≡ nodes = omega (arith, lt) in
    ap of least
    ∙ ap (λ c. cond (ltb nodes full) (Some (setting.hash c)) None) (sym (chunk_there setting state nodes (omega (arith, lt)))))
    (λ le. let least : min nodes full ≡ full = omega (arith, le) in
    ap of least
    ∙ ap (λ b. cond b (Some (setting.hash (chunk_of setting.width (drop (chunk_bits setting * full) state.bits)))) None) (le-ltb full full (omega arith))
    ∙ sym (ap (λ b. cond b (Some (setting.hash (chunk setting state nodes))) None) (le-ltb nodes full le)))
    (cases_lt nodes full)

-- and that of the partial one
pub built_partial : (setting : Setting) (state : State)
    → cond (eqb (next_bit setting state) 0) None
    (Some (setting.hash (chunk_of setting.width (drop (chunk_bits setting * full_chunks setting state) state.bits))))
    ≡ partial_digest setting state
unfolding partial_digest
built_partial setting state = case (eqb (next_bit setting state) 0) refl
  where
    full : ℕ
    full = full_chunks setting state

    case : (b : Bool) → eqb (next_bit setting state) 0 ≡ b
        → cond b None (Some (setting.hash (chunk_of setting.width (drop (chunk_bits setting * full) state.bits))))
        ≡ cond b None (Some (setting.hash (chunk setting state full)))
    case true is = refl
    case false is =
        let there : full < full + cond (eqb (next_bit setting state) 0) 0 1 =
        subst (λ (b : Bool). full < full + cond b 0 1) (sym is) (omega arith) in
        ap (λ c. Some (setting.hash c)) (sym (chunk_there setting state full there))

-- chunks that are pruned whole are no more than those that the bits fill
pub kept_full : (n bits pruned : ℕ) → 0 < bits → bits * pruned ≤ n → pruned ≤ n / bits
kept_full n bits pruned some within =
    ⊎_elim
    (λ lt. absurd (omega (arith, within, (div-lt_iff_lt-mul {k = bits} {x = n} {y = pruned} some).0 lt, mul_comm bits pruned)))
    (λ le. le) (cases_lt (n / bits) pruned)

-- where some bits are left over their chunk has a bit
pub partial_there : (n bits : ℕ) → 0 < n % bits → bits * (n / bits) < n
partial_there n bits some = omega (arith, some, div-add-mod n bits, mul_comm bits (n / bits))

-- a full chunk has a bit
pub full_there : (n bits index : ℕ) → 0 < bits → index < n / bits → bits * index < n
full_there n bits index some lt =
    omega (arith, div-add-mod n bits, mul-lt-mul_of_pos_left {m = index} {n = n / bits} {k = bits} lt some, mul_comm bits (n / bits))

-- why the proof over a plan is not built, as this crate tells it
pub lifted_refusal : {F : Type 0} (rule : Rule) (span : Span) (inactive : ℕ) (known : Lookup) (e : MerkleError F)
    → inactive ≤ length (peaks_of rule span.leaves) → IsRefusalToBuild rule span inactive known e → IsRefusalOfNodes rule span known (lifted e)
lifted_refusal rule span inactive known (ElementPruned p) few is = is.1
lifted_refusal rule span inactive known InvalidInactivePeaks few is = absurd (omega (arith, few, is))
lifted_refusal rule span inactive known NoMemory few is = tt
lifted_refusal rule span inactive known (LocationOverflow l) few is = absurd is
lifted_refusal rule span inactive known Empty few is = absurd is
lifted_refusal rule span inactive known (RangeOutOfBounds l) few is = absurd is
lifted_refusal rule span inactive known InvalidSize few is = absurd is
lifted_refusal rule span inactive known (LeafOutOfBounds l) few is = absurd is
lifted_refusal rule span inactive known (DuplicateLocation l) few is = absurd is
lifted_refusal rule span inactive known (UnsortedLocation l) few is = absurd is
lifted_refusal rule span inactive known InvalidPinnedNodes few is = absurd is
lifted_refusal rule span inactive known StaleBatch few is = absurd is
lifted_refusal rule span inactive known AncestorDropped few is = absurd is
lifted_refusal rule span inactive known (MissingNode p) few is = absurd is

-- the first peaks that end at a chunk's border before the floor are peaks
pub aligned_within : (bits floor : ℕ) (rule : Rule) (leaf_total : ℕ)
    → chunk_aligned_inactive_peaks bits floor (peaks_of rule leaf_total) ≤ length (peaks_of rule leaf_total)
aligned_within bits floor rule leaf_total = aligned-few bits floor (peaks_of rule leaf_total)

-- the same, from as many bits as leaves
pub pending_from : (setting : Setting) (state : State) (leaf_total width : ℕ) (bits : List Bool) → leaf_total ≡ length state.operations
    → length bits ≡ leaf_total → width ≡ setting.width → bits ≡ state.bits
    → (let full : ℕ = length bits / (8 * width) in
    let graftable : ℕ = min (nodes_of_height setting.grafting_height (forest_of setting.rule leaf_total)) full in
    cond (ltb graftable full) (Some (setting.hash (chunk_of width (drop (8 * width * graftable) bits)))) None) ≡ pending_digest setting state
pending_from setting state leaf_total width bits same count wide is =
    let of : ℕ → ℕ → ℕ → List Bool → Option (List ℕ) = λ most n w bs.
    (let full : ℕ = n / (8 * w) in
    let graftable : ℕ = min (nodes_of_height setting.grafting_height (forest_of setting.rule most)) full in
    cond (ltb graftable full) (Some (setting.hash (chunk_of w (drop (8 * w * graftable) bs)))) None) in
    ap (λ n. of n (length bits) width bits) same ∙ ap (λ n. of (length state.operations) n width bits) (count ∙ same)
    ∙ ap (λ w. of (length state.operations) (length state.operations) w bits) wide
    ∙ ap (λ bs. of (length state.operations) (length state.operations) setting.width bs) is
    ∙ built_pending setting state

pub partial_from : (setting : Setting) (state : State) (width : ℕ) (bits : List Bool) → length bits ≡ length state.operations
    → width ≡ setting.width → bits ≡ state.bits
    → cond (eqb (length bits % (8 * width)) 0) None (Some (setting.hash (chunk_of width (drop (8 * width * (length bits / (8 * width))) bits))))
    ≡ partial_digest setting state
partial_from setting state width bits count wide is =
    let of : ℕ → ℕ → List Bool → Option (List ℕ) = λ n w bs.
    cond (eqb (n % (8 * w)) 0) None (Some (setting.hash (chunk_of w (drop (8 * w * (n / (8 * w))) bs)))) in
    ap (λ n. of n width bits) count ∙ ap (λ w. of (length state.operations) w bits) wide
    ∙ ap (λ bs. of (length state.operations) setting.width bs) is ∙ built_partial setting state

-- a chunk's bits have one grafting height
pub one_height : (n width level height : ℕ) → width ≡ n → 8 * width ≡ 2 ^ level → 8 * n ≡ 2 ^ height → level ≡ height
one_height n width level height wide whole is = same_power level height (sym whole ∙ ap (λ w. 8 * w) wide ∙ is)

pub same_setting : (rule : Rule) (hash : Hash) (a b g h : ℕ) → a ≡ b → g ≡ h → setting_with rule hash a g ≡ setting_with rule hash b h
same_setting rule hash a b g h wide high = ap (λ w. setting_with rule hash w g) wide ∙ ap (setting_with rule hash b) high

pub same_measures : (rule : Rule) (a b g h : ℕ) → a ≡ b → g ≡ h → measures_with rule a g ≡ measures_with rule b h
same_measures rule a b g h wide high = ap (λ w. measures_with rule w g) wide ∙ ap (measures_with rule b) high

-- the inactive peaks and the digests are the state's
pub built_inactive : (setting : Setting) (state : State) (leaf_total power floor : ℕ) → leaf_total ≡ length state.operations
    → power ≡ chunk_bits setting → state.floor ≡ floor
    → chunk_aligned_inactive_peaks power floor (peaks_of setting.rule leaf_total) ≡ grafted_inactive setting state
unfolding grafted_inactive
built_inactive setting state leaf_total power floor same whole at =
    ap (λ n. chunk_aligned_inactive_peaks power floor (peaks_of setting.rule n)) same
    ∙ ap (λ b. chunk_aligned_inactive_peaks b floor (peaks setting state)) whole
    ∙ ap (λ f. chunk_aligned_inactive_peaks (chunk_bits setting) f (peaks setting state)) (sym at)

pub built_digests : (setting : Setting) (state : State) (source : Source) (power floor : ℕ) (digests : List (List ℕ))
    → IsSourceOf setting state source → power ≡ chunk_bits setting → state.floor ≡ floor
    → unknown_node setting.rule source.span source.known ≡ None
    → digests ≡ honest_digests setting.hash (looked_up source.known) BackwardFold setting.rule source.span.leaves
    (chunk_aligned_inactive_peaks power floor (peaks_of setting.rule source.span.leaves)) source.span.start source.span.stop
    → digests ≡ grafted_range setting state source.span.start source.span.stop
unfolding grafted_range
built_digests setting state source power floor digests it whole at none is =
    let n : ℕ = source.span.leaves in
    let digest : Digests = grafted_digests setting state in
    let inactive : ℕ = chunk_aligned_inactive_peaks power floor (peaks_of setting.rule n) in
    let same : (first : ℕ) (tree : Tree) (d : List ℕ) → IsNodeAt first tree (forest_of setting.rule n) → source.known (position tree) ≡ Some d
    → d ≡ digest first tree = λ first tree d stands known.
    it.known first tree d (subst (λ (k : ℕ). IsNodeAt first tree (forest_of setting.rule k)) it.leaves stands) known in
    is ∙ known_digests setting.hash setting.rule source.known digest n inactive source.span.start source.span.stop same none
    ∙ ap (λ k. range_digests setting.hash digest BackwardFold source.span.start source.span.stop (take k (peaks_of setting.rule n))
    (drop k (peaks_of setting.rule n))) (built_inactive setting state n power floor it.leaves whole at)
    ∙ ap (λ m. range_digests setting.hash digest BackwardFold source.span.start source.span.stop
    (take (grafted_inactive setting state) (peaks_of setting.rule m)) (drop (grafted_inactive setting state) (peaks_of setting.rule m))) it.leaves

-- a proof holds what the honest one does where each part is its part
pub same_range : (l m i j : ℕ) (ds es : List (List ℕ)) (p q r s : Option (List ℕ)) (o u : List ℕ) → l ≡ m → i ≡ j → ds ≡ es
    → p ≡ q → r ≡ s → o ≡ u
    → ◌≡◌ {A = RangeParts} (record { leaves = l; inactive = i; digests = ds; pending = p; partial = r; operations_root = o })
    (record { leaves = m; inactive = j; digests = es; pending = q; partial = s; operations_root = u })
same_range l m i j ds es p q r s o u a b c d e f = rw (a, b, c, d, e, f) refl

-- a refusal to build is one to build what is planned
pub planned : {F : Type 0} (measures : Measures) (source : Source) (e : Error F) → IsWithinTree source.span → IsRefusalOfSource measures source e
    → IsRefusalOfPlanned measures source e
planned measures source DataCorrupted within is = (within, is)
planned measures source (Merkle error) within is = inr (within, is)
planned measures source Memory within is = tt
planned measures source (OperationPruned l) within is = absurd is

pub err_as : {A E : Type 0} (outcome : Result A E) (P Q : E → Type 0) → IfErr outcome P → ((e : E) → P e → Q e) → IfErr outcome Q
err_as (Ok x) P Q is each = tt
err_as (Err e) P Q is each = each e is

-- a refusal of the range is one of the operation, whose chunk is kept
pub operation_refusal : {F : Type 0} (measures : Measures) (source : Source) (location : ℕ) (e : Error F)
    → (IsPruned measures (chunks_asked source) location → ⊥) → IsRefusalOfSource measures source e
    → IsRefusalOfOperation measures source location e
operation_refusal measures source location DataCorrupted kept is = (kept, is)
operation_refusal measures source location (Merkle error) kept is = (kept, is)
operation_refusal measures source location Memory kept is = tt
operation_refusal measures source location (OperationPruned l) kept is = absurd is

pub same_parts : (l m : ℕ) (c d : List ℕ) (r s : RangeParts) → l ≡ m → c ≡ d → r ≡ s
    → ◌≡◌ {A = Parts} (record { location = l; chunk = c; range = r }) (record { location = m; chunk = d; range = s })
same_parts l m c d r s one two three = rw (one, two, three) refl

-- a refusal to build is one of the operation of a tree that has it
pub located : {F : Type 0} (measures : Measures) (source : Source) (location : ℕ) (e : Error F) → location < source.span.leaves
    → IsRefusalOfOperation measures source location e → IsRefusalOfLocated measures source location e
located measures source location DataCorrupted within is = (is.0, inr (within, is.1))
located measures source location (Merkle error) within is = (is.0, inr (within, is.1))
located measures source location Memory within is = tt
located measures source location (OperationPruned l) within is = is
