-- Calls of the tree that are refused only for want of memory.
use Rattle.std.proofs.Common.{◌≡◌, ℕ, ◌+◌, ◌^◌, ◌<◌, ◌≤◌, None, Some, refl, sym, ◌∙◌, ap, arith}
use Rattle.merkle_forest.specs.Forest.{Rule}
use Rattle.merkle_core_parts.specs.Errors.{IsRefusalPast, IsRefusalAt, IsRefusalOnto, IsRefusalToPrune}
use Rattle.merkle_core_parts.specs.Mem.{Base, Growth}
use Rattle.merkle_core_parts.specs.declared.error.Error.{Error}
use Rattle.merkle_core_parts.specs.declared.error.Error.TheVariants.{LocationOverflow, LeafOutOfBounds, ElementPruned}
use Rattle.merkle_core_parts.specs.declared.error.Error.TheVariants.{StaleBatch, AncestorDropped, Memory}
use Rattle.merkle_core_parts.specs.declared.error.Error.TheVariants.{InvalidInactivePeaks}
use Rattle.merkle_theory.specs.Plans.{Lookup, first_missing, range_positions, IsRefusalToProveElement}

pub past_memory : {F : Type 0} (leaves : ℕ) (e : Error F) → leaves < 2 ^ 62 → IsRefusalPast leaves e → e ≡ Memory
past_memory leaves (LocationOverflow location) few refused = absurd (omega (arith, few, refused.1))
past_memory leaves Memory few refused = refl
past_memory leaves other few refused = absurd refused

pub at_memory : {F : Type 0} (rule : Rule) (boundary leaves asked : ℕ) (e : Error F) → boundary ≤ asked → asked < leaves
    → IsRefusalAt rule boundary leaves asked e → e ≡ Memory
at_memory rule boundary leaves asked (LeafOutOfBounds location) low high refused =
    absurd (omega (arith, high, refused.1))
at_memory rule boundary leaves asked (ElementPruned position) low high refused = absurd (omega (arith, low, refused.1))
at_memory rule boundary leaves asked Memory low high refused = refl
at_memory rule boundary leaves asked other low high refused = absurd refused

pub onto_memory : {F : Type 0} (batch : Growth) (tree : Base) (e : Error F) → batch.base ≡ tree
    → IsRefusalOnto batch tree e
    → e ≡ Memory
onto_memory batch tree StaleBatch same refused = absurd (refused.0 0 (ap (λ b. Some b) same))
onto_memory batch tree AncestorDropped same refused = absurd (refused.0 0 (ap (λ b. Some b) same))
onto_memory batch tree Memory same refused = refl
onto_memory batch tree other same refused = absurd refused

pub prune_memory : {F : Type 0} (leaves asked : ℕ) (e : Error F) → asked ≤ leaves
    → IsRefusalToPrune leaves asked e → e ≡ Memory
prune_memory leaves asked (LeafOutOfBounds location) within refused = absurd (omega (arith, within, refused.1))
prune_memory leaves asked Memory within refused = refl
prune_memory leaves asked other within refused = absurd refused

pub element_memory : {F : Type 0} (rule : Rule) (leaf_total location : ℕ) (known : Lookup) (e : Error F)
    → location < leaf_total
    → first_missing known (range_positions rule leaf_total location (location + 1)) ≡ None
    → IsRefusalToProveElement rule leaf_total location 0 known e → e ≡ Memory
element_memory rule leaf_total location known (LeafOutOfBounds asked) within there refused =
    absurd (omega (arith, within, refused.1))
element_memory rule leaf_total location known InvalidInactivePeaks within there refused =
    absurd (omega (arith, refused.1))
element_memory rule leaf_total location known (ElementPruned p) within there refused =
    absurd (let clash : None ≡ Some p = sym there ∙ refused.2 in cc)
element_memory rule leaf_total location known Memory within there refused = refl
element_memory rule leaf_total location known other within there refused = absurd refused
