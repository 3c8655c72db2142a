-- Chunks are settled where each of their peaks is born in time.
use Rattle.std.proofs.Common.{◌≡◌, inl, inr, ℕ, ◌+◌, ◌*◌, ◌/◌, ◌^◌}
use Rattle.std.proofs.Common.{◌<◌, ◌≤◌, List, [], ◌∷◌, sym, ◌∙◌, ap, subst, arith}
use Rattle.std.specs.Prelude.{◌↔◌}
use Rattle.std.proofs.lemmas.Bool.{cases_lt}
use Rattle.std.proofs.lemmas.Nat.{div-add-mod', mul-le, pow-add}
use Rattle.std.proofs.Math.Nat.{mul_assoc}
use Rattle.merkle_forest.specs.Forest.{Tree, height, leaf_count, Rule, forest_of}
use Rattle.merkle_forest.specs.Laws.ForestGrowth.{leaves-forest_of}
use Rattle.merkle_forest.specs.Laws.Nodes.{node-fits, peak-node}
use Rattle.merkle_forest.specs.Laws.Peaks.{leaf_count-pos}
use Rattle.merkle_forest.specs.Nodes.{HasNode, IsPeakAt}
use Rattle.merkle_forest.specs.Perfect.{IsPairing}
use Rattle.state_theory.specs.Laws.GraftedNodes.{Aligned}
use Rattle.state_theory.specs.Laws.SameNodes.{AreBorn}
use Rattle.state_current.specs.Settled.{IsSettled}

-- one peak begins at a location
pub one_peak : (first : ℕ) (a b : Tree) (peaks : List Tree) → IsPeakAt first a peaks → IsPeakAt first b peaks → a ≡ b
one_peak first a b [] one other = absurd one
one_peak first a b (t ∷ ts) (inl one) (inl other) = one.1 ∙ sym other.1
one_peak first a b (t ∷ ts) (inl one) (inr other) =
    absurd (omega (arith, one.0, node-fits first b ts (peak-node first b ts other), leaf_count-pos b))
one_peak first a b (t ∷ ts) (inr one) (inl other) =
    absurd (omega (arith, other.0, node-fits first a ts (peak-node first a ts one), leaf_count-pos a))
one_peak first a b (t ∷ ts) (inr one) (inr other) = one_peak first a b ts one other

-- the peaks before a location are raised to nodes
abbrev pub AreSettledBefore : Rule → ℕ → ℕ → ℕ → ℕ → Type 0
AreSettledBefore rule level operations chunks limit = (first : ℕ) (peak : Tree) → IsPeakAt first peak (forest_of rule chunks) → first < limit
    → HasNode (forest_of rule operations) (first * 2 ^ level) (height peak + level)

module _ (rule : Rule) (pairs : IsPairing rule) (aligned : Aligned rule) (birth : ℕ → ℕ → ℕ) (born : AreBorn rule birth)
    (level operations chunks : ℕ) where
  -- a peak is raised to a node exactly if that is born in time
  pub raised : (first : ℕ) (peak : Tree) → IsPeakAt first peak (forest_of rule chunks)
      → HasNode (forest_of rule operations) (first * 2 ^ level) (height peak + level) ↔ (birth (first * 2 ^ level) (height peak + level) ≤ operations)
  raised first peak stands =
      let part = aligned chunks first peak (peak-node first peak (forest_of rule chunks) stands) in
      let at : first * 2 ^ level ≡ part.0 * 2 ^ (height peak + level) =
      ap (λ k. k * 2 ^ level) part.1 ∙ mul_assoc part.0 (2 ^ height peak) (2 ^ level) ∙ ap (λ k. part.0 * k) (sym (pow-add 2 (height peak) level)) in
      subst (λ k. HasNode (forest_of rule operations) k (height peak + level) ↔ (birth k (height peak + level) ≤ operations)) (sym at)
      (born.births part.0 (height peak + level) operations)

  -- one peak more
  pub settled_next : (first next : ℕ) (own : Tree) → IsPeakAt first own (forest_of rule chunks) → next ≡ first + leaf_count own
      → birth (first * 2 ^ level) (height own + level) ≤ operations
      → AreSettledBefore rule level operations chunks first → AreSettledBefore rule level operations chunks next
  settled_next first next own own_stands next_is soon before at peak stands lt =
      elim (cases_lt at first) [
        | inl earlier ↦ before at peak stands earlier
        | inr later ↦
            (elim (cases_lt first at) [
              | inl past ↦ absurd (apart (forest_of rule chunks) first at own peak own_stands stands past (omega (arith, lt, next_is)))
              | inr same ↦
                  (let begins : first ≡ at = omega (arith, later, same) in
                  let one : own ≡ peak = one_peak at own peak (forest_of rule chunks)
                  (subst (λ k. IsPeakAt k own (forest_of rule chunks)) begins own_stands) stands in
                  let node = (raised first own own_stands).1 soon in
                  subst (λ k. HasNode (forest_of rule operations) (k * 2 ^ level) (height peak + level)) begins
                  (subst (λ (t : Tree). HasNode (forest_of rule operations) (first * 2 ^ level) (height t + level)) one node))
            ])
      ]
    where
      apart : (peaks : List Tree) (f g : ℕ) (a b : Tree) → IsPeakAt f a peaks → IsPeakAt g b peaks → f < g → g < f + leaf_count a → ⊥
      apart [] f g a b one other past within = one
      apart (t ∷ ts) f g a b (inl one) (inl other) past within = omega (arith, one.0, other.0, past)
      apart (t ∷ ts) f g a b (inl one) (inr other) past within =
          omega (arith, one.0, node-fits g b ts (peak-node g b ts other), leaf_count-pos b, past)
      apart (t ∷ ts) f g a b (inr one) (inl other) past within = omega (arith, other.0, node-fits f a ts (peak-node f a ts one), within)
      apart (t ∷ ts) f g a b (inr one) (inr other) past within = apart ts f g a b one other past within

  pub settled_all : (limit : ℕ) → chunks ≤ limit → AreSettledBefore rule level operations chunks limit → IsSettled rule level operations chunks
  settled_all limit le before first peak stands =
      before first peak stands (omega (
        arith,
        node-fits first peak (forest_of rule chunks) (peak-node first peak (forest_of rule chunks) stands),
        leaves-forest_of rule pairs chunks,
        leaf_count-pos peak,
        le,
      ))

-- so many whole parts are within
pub within_of : (n operations level : ℕ) → n ≤ operations / 2 ^ level → n * 2 ^ level ≤ operations
within_of n operations level le =
    omega (arith, mul-le n (2 ^ level) (operations / 2 ^ level) (2 ^ level) le (omega arith), div-add-mod' operations (2 ^ level))
