-- Proofs from the pruned chunks on are refused only for want of memory.
use Rattle.std.proofs.Common.{◌≡◌, ◌≢◌, ◌⊎◌, inl, inr, ⊎_elim, ℕ}
use Rattle.std.proofs.Common.{◌+◌, ◌*◌, ◌/◌, ◌^◌, ◌<◌, ◌≤◌, min, length, None}
use Rattle.std.proofs.Common.{Some, Result, Ok, Err, refl, sym, ◌∙◌, ap, ap₂, subst, arith}
use Rattle.std.specs.Prelude.{IfErr}
use Rattle.std.proofs.lemmas.Nat.{le-div, pow_pos}
use Rattle.std.proofs.Math.Nat.{mul_comm}
use Rattle.merkle_forest.specs.Forest.{Rule, forest_of}
use Rattle.merkle_forest.specs.Hashing.{Hash}
use Rattle.merkle_forest.specs.Nodes.{nodes_of_height}
use Rattle.merkle_core_parts.specs.Mem.{AreKeptNodes}
use Rattle.merkle_core_parts.specs.declared.error.Error.{Error as MerkleError}
use Rattle.merkle_core_parts.specs.declared.error.Error.TheVariants.{Memory as NoMemory, LocationOverflow, Empty}
use Rattle.merkle_core_parts.specs.declared.error.Error.TheVariants.{RangeOutOfBounds, LeafOutOfBounds, ElementPruned}
use Rattle.merkle_core_parts.specs.declared.error.Error.TheVariants.{InvalidInactivePeaks}
use Rattle.merkle_theory.specs.MadeRoots.{peaks_of}
use Rattle.merkle_theory.specs.Plans.{Asked as Span, IsRefusalOfElement, IsRefusalOfRange, IsRefusalToProveNow}
use Rattle.merkle_theory.specs.Plans.{IsWithinTree, Lookup, first_missing, range_positions}
use Rattle.state_theory.specs.Bits.{all_bits, bit_count}
use Rattle.state_theory.specs.Laws.Bits.{length-all}
use Rattle.state_proofs.specs.declared.error.Error.{Error}
use Rattle.state_proofs.specs.declared.error.Error.TheVariants.{DataCorrupted, OperationPruned, Merkle, Memory}
use Rattle.state_proofs.specs.Built.{AreApart, IsRefusalOfLocated, IsRefusalOfPlanned, IsUnknown, chunks_asked, unknown_node}
use Rattle.state_theory.specs.Sources.{Source}
use Rattle.state_proofs.specs.BuiltCode.{measures_with, source_of, span_of}
use Rattle.state_theory.specs.Laws.Heights.{same_power, some_height}
use Rattle.state_proofs.specs.Required.{Measures}
use Rattle.state_current.specs.Kept.{AreTogether, Kept, read_of}
use Rattle.state_current.specs.Settled.{IsSettled}
use Rattle.state_current.proofs.CurrentLemmas.{IsGraftable, pruned_of_bits}
use Rattle.state_current.proofs.PruneLemmas.{settled_leaves}
use Rattle.state_current.proofs.PrunedLemmas.{peaks_above}
use Rattle.state_proving.proofs.RangeLemmas.{none_is_missing}
use Rattle.state_current.proofs.ReadLemmas.{node_kept}

-- each node is there
pub none_unknown : (rule : Rule) (hash : Hash) (width : ℕ) (kept : Kept) (facts : IsGraftable rule) (together : AreTogether rule width kept)
    → AreKeptNodes rule kept.operations → AreKeptNodes rule kept.chunks → kept.operations.leaves ≤ 2 ^ 62 → (level : ℕ) → 8 * width ≡ 2 ^ level
    → (start stop : ℕ) → 8 * width * kept.bits.pruned ≤ start
    → first_missing (read_of rule hash level kept) (range_positions rule kept.operations.leaves start stop) ≡ None
none_unknown rule hash width kept facts together shape chunks_shape few level whole start stop late =
    let same : together.level ≡ level = same_power together.level level (sym together.whole ∙ whole) in
    let low : level ≤ 62 = omega (arith, same, together.low) in
    let n : ℕ = kept.operations.leaves in
    let settled : IsSettled rule level n kept.chunks.boundary =
    subst (IsSettled rule level n) (sym together.pruned) (subst (λ l. IsSettled rule l n kept.bits.pruned) same together.settled) in
    let pruned : kept.operations.boundary ≤ kept.chunks.boundary * 2 ^ level =
    omega (
      arith,
      together.pruned_operations,
      ap (λ l. kept.bits.pruned * 2 ^ l) same,
      ap (λ k. k * 2 ^ level) together.pruned,
    ) in
    let ends : kept.chunks.boundary * 2 ^ level ≤ start =
    omega (
      arith,
      late,
      mul_comm (8 * width) kept.bits.pruned ∙ ap (λ k. kept.bits.pruned * k) whole,
      ap (λ k. k * 2 ^ level) together.pruned,
    ) in
    none_is_missing rule facts.pairs facts.aligned n level kept.chunks.boundary start stop ends
    (λ first t stands. peaks_above rule facts.root facts.pairs facts.roots facts.aligned hash n level kept.chunks.boundary settled first t stands)
    (read_of rule hash level kept)
    (λ first t stands above.
    node_kept rule facts.root facts.pairs facts.roots facts.aligned hash level facts.birth facts.born
    (λ m chunk small. facts.counted m chunk level small (some_height width level whole) low)
    n few kept.operations kept.chunks shape chunks_shape refl
    (together.leaves ∙ ap (λ l. nodes_of_height l (forest_of rule n)) same) pruned first t stands above)

-- bits and operations belong together
pub not_apart : (rule : Rule) (width : ℕ) (kept : Kept) (facts : IsGraftable rule) (together : AreTogether rule width kept)
    → kept.operations.leaves ≤ 2 ^ 62 → (level : ℕ) → 8 * width ≡ 2 ^ level
    → kept.operations.leaves / 2 ^ level ≤ nodes_of_height level (forest_of rule kept.operations.leaves) + 1
    → (span : Span) (known : Lookup) → span.leaves ≡ kept.operations.leaves
    → AreApart (measures_with rule width level) (chunks_asked (source_of span (all_bits width kept.bits) kept.bits.pruned known)) → ⊥
not_apart rule width kept facts together few level whole pending span known leaves (inl apart) =
    apart (length-all width kept.bits ∙ together.bits ∙ sym leaves)
not_apart rule width kept facts together few level whole pending span known leaves (inr corrupted) =
    let same : together.level ≡ level = same_power together.level level (sym together.whole ∙ whole) in
    let some : 0 < together.level = some_height width together.level together.whole in
    let n : ℕ = kept.operations.leaves in
    let nodes : ℕ = nodes_of_height level (forest_of rule span.leaves) in
    let full : ℕ = length (all_bits width kept.bits) / (8 * width) in
    let nodes_are : nodes ≡ nodes_of_height level (forest_of rule n) = ap (λ k. nodes_of_height level (forest_of rule k)) leaves in
    let full_is : full ≡ n / 2 ^ level = ap₂ (λ a b. a / b) (length-all width kept.bits ∙ together.bits) whole in
    let counted : full ≡ bit_count width kept.bits / (8 * width) = ap (λ k. k / (8 * width)) (length-all width kept.bits) in
    let wide : 0 < width = omega (arith, whole, pow_pos level) in
    let within : kept.bits.pruned ≤ full = pruned_of_bits width full kept.bits wide counted in
    let grafted : kept.bits.pruned ≤ kept.chunks.leaves =
    settled_leaves rule facts.pairs width kept.bits.pruned kept together (λ i there. (facts.counted n i together.level few some together.low).0 there)
    together.settled in
    let leaves_are : kept.chunks.leaves ≡ nodes = together.leaves ∙ ap (λ l. nodes_of_height l (forest_of rule n)) same ∙ sym nodes_are in
    by corrupted (omega (arith, pending, full_is, nodes_are)) (omega (arith, grafted, leaves_are)) within
  where
    by : {a b p : ℕ} → (min a b + 1 < b) ⊎ (min a b < p) → b ≤ a + 1 → p ≤ a → p ≤ b → ⊥
    by (inl more) pending grafted within = omega (arith, more, pending)
    by (inr less) pending grafted within = omega (arith, less, grafted, within)

-- ---- so no other refusal is left
range_stands : {F : Type 0} (span : Span) (e : MerkleError F) → IsWithinTree span → e ≢ NoMemory → IsRefusalOfRange span e → ⊥
range_stands span Empty within other why = omega (arith, within.some, why)
range_stands span (RangeOutOfBounds stop) within other why = omega (arith, within.within, why.2)
range_stands span (LocationOverflow leaves) within other why = omega (arith, within.few, why.3)
range_stands span NoMemory within other why = other refl
range_stands span e within other why = why

all_known : {F : Type 0} (rule : Rule) (span : Span) (known : Lookup) (e : MerkleError F) → span.leaves ≤ 2 ^ 62
    → unknown_node rule span known ≡ None → IsUnknown rule span known e → ⊥
all_known rule span known (LocationOverflow most) few none why = omega (arith, few, why.1)
all_known rule span known (ElementPruned p) few none why = absurd (let clash : None ≡ Some p = sym none ∙ why in cc)
all_known rule span known e few none why = why

pub planned_memory : {F : Type 0} (measures : Measures) (source : Source) (e : Error F) → IsWithinTree source.span
    → unknown_node measures.rule source.span source.known ≡ None → (AreApart measures (chunks_asked source) → ⊥)
    → IsRefusalOfPlanned measures source e → e ≡ Memory
planned_memory measures source (Merkle error) within none together (inl why) =
    absurd (range_stands source.span error within why.0 why.1)
planned_memory measures source (Merkle error) within none together (inr why) =
    absurd (all_known measures.rule source.span source.known error within.few none why.1)
planned_memory measures source Memory within none together why = refl
planned_memory measures source DataCorrupted within none together why = absurd (together why.1.1)
planned_memory measures source (OperationPruned location) within none together why = absurd why.1

leaf_stands : {F : Type 0} (leaves location : ℕ) (e : MerkleError F) → leaves ≤ 2 ^ 62 → location < leaves → e ≢ NoMemory
    → IsRefusalOfElement leaves location e → ⊥
leaf_stands leaves location (LeafOutOfBounds asked) few within other why = omega (arith, within, why.1)
leaf_stands leaves location (LocationOverflow most) few within other why = omega (arith, few, why.2)
leaf_stands leaves location NoMemory few within other why = other refl
leaf_stands leaves location e few within other why = why

pub located_memory : {F : Type 0} (measures : Measures) (source : Source) (location : ℕ) (e : Error F) → source.span.leaves ≤ 2 ^ 62
    → location < source.span.leaves → source.pruned ≤ location / measures.chunk_bits
    → unknown_node measures.rule source.span source.known ≡ None → (AreApart measures (chunks_asked source) → ⊥)
    → IsRefusalOfLocated measures source location e → e ≡ Memory
located_memory measures source location (Merkle error) few within late none together why =
    absurd (⊎_elim (λ out. leaf_stands source.span.leaves location error few within out.0 out.1)
    (λ unknown. all_known measures.rule source.span source.known error few none unknown.1) why.1)
located_memory measures source location Memory few within late none together why = refl
located_memory measures source location DataCorrupted few within late none together why =
    absurd (⊎_elim (λ out. out) (λ apart. together apart.1.1) why.1)
located_memory measures source location (OperationPruned asked) few within late none together why = absurd (omega (arith, late, why.1))

pub now_memory : {F : Type 0} (rule : Rule) (span : Span) (inactive : ℕ) (known : Lookup) (e : MerkleError F) → span.start < span.stop
    → span.stop ≤ span.leaves → inactive ≤ length (peaks_of rule span.leaves)
    → first_missing known (range_positions rule span.leaves span.start span.stop) ≡ None
    → IsRefusalToProveNow rule span inactive known e → e ≡ NoMemory
now_memory rule span inactive known Empty some within enough none why = absurd (omega (arith, some, why))
now_memory rule span inactive known (RangeOutOfBounds end) some within enough none why = absurd (omega (arith, within, why.2))
now_memory rule span inactive known InvalidInactivePeaks some within enough none why = absurd (omega (arith, enough, why.1))
now_memory rule span inactive known (ElementPruned p) some within enough none why = absurd (let clash : None ≡ Some p = sym none ∙ why.2 in cc)
now_memory rule span inactive known NoMemory some within enough none why = refl
now_memory rule span inactive known e some within enough none why = absurd why

-- ---- what is left of the refusals of what is kept
pub if_err : {A E : Type 0} (P Q : E → Type 0) → ((e : E) → P e → Q e) → (r : Result A E) → IfErr r P → IfErr r Q
if_err P Q each (Ok a) why = tt
if_err P Q each (Err e) why = each e why

-- what is said of one source holds of the same source
pub retold : {A E : Type 0} (P : ℕ → Lookup → E → Type 0) (r : Result A E) {n m : ℕ} {one other : Lookup} → n ≡ m → one ≡ other
    → IfErr r (P n one) → IfErr r (P m other)
retold P r {n = n} {other = other} count known why =
    subst (λ k. IfErr r (P k other)) count (subst (λ l. IfErr r (P n l)) known why)

module _ (rule : Rule) (hash : Hash) (width : ℕ) (kept : Kept) (facts : IsGraftable rule) (together : AreTogether rule width kept)
    (shape : AreKeptNodes rule kept.operations) (chunks_shape : AreKeptNodes rule kept.chunks) (few : kept.operations.leaves ≤ 2 ^ 62)
    (level : ℕ) (whole : 8 * width ≡ 2 ^ level)
    (pending : kept.operations.leaves / 2 ^ level ≤ nodes_of_height level (forest_of rule kept.operations.leaves) + 1) where
  abbrev source_from : ℕ → ℕ → Source
  source_from start stop =
      source_of (span_of kept.operations.leaves start stop) (all_bits width kept.bits) kept.bits.pruned (read_of rule hash level kept)

  pub range_memory : {F : Type 0} (start stop : ℕ) (e : Error F) → 8 * width * kept.bits.pruned ≤ start → start < stop
      → stop ≤ kept.operations.leaves → IsRefusalOfPlanned (measures_with rule width level) (source_from start stop) e → e ≡ Memory
  range_memory start stop e late some within why =
      planned_memory (measures_with rule width level) (source_from start stop) e (record { few = few; some = some; within = within })
      (none_unknown rule hash width kept facts together shape chunks_shape few level whole start stop late)
      (not_apart rule width kept facts together few level whole pending (span_of kept.operations.leaves start stop)
      (read_of rule hash level kept) refl) why

  pub operation_memory : {F : Type 0} (location : ℕ) (e : Error F) → 8 * width * kept.bits.pruned ≤ location
      → location < kept.operations.leaves
      → IsRefusalOfLocated (measures_with rule width level) (source_from location (location + 1)) location e → e ≡ Memory
  operation_memory location e late within why =
      located_memory (measures_with rule width level) (source_from location (location + 1)) location e few within
      (le-div kept.bits.pruned location (8 * width) (omega (arith, whole, pow_pos level)) (omega (arith, late, mul_comm kept.bits.pruned (8 * width))))
      (none_unknown rule hash width kept facts together shape chunks_shape few level whole location (location + 1) late)
      (not_apart rule width kept facts together few level whole pending (span_of kept.operations.leaves location (location + 1))
      (read_of rule hash level kept) refl) why
