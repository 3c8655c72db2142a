-- Nodes of the grafted tree that are read of two pruned trees.
use Rattle.std.proofs.Common.{◌≡◌, ◌⊎◌, inl, inr, ⊎_elim, ℕ, suc, ◌+◌, ◌-◌, ◌*◌, ◌/◌, ◌^◌, ◌<◌, ◌≤◌, true, false}
use Rattle.std.proofs.Common.{List, [], ◌∷◌, Option, None, Some, refl, sym, ◌∙◌, ap, subst, arith}
use Rattle.std.specs.Option.{option_or}
use Rattle.std.specs.Prelude.{IsSome, option_and_then}
use Rattle.std.proofs.lemmas.Bool.{cases_lt, cases_eq}
use Rattle.std.proofs.lemmas.Nat.{pow_pos, pow-add, mul-le, div-add-mod', mod_below, pow_below}
use Rattle.std.proofs.Math.Nat.{add-mul, mul_assoc, mul-div_cancel}
use Rattle.merkle_forest.specs.Forest.{Tree, leaf, branch, position, height, leaf_count, leaves, Rule, forest_of}
use Rattle.merkle_forest.specs.Hashing.{Hash}
use Rattle.merkle_forest.specs.Laws.ForestGrowth.{forest_of-perfect, leaves-forest_of}
use Rattle.merkle_forest.specs.Laws.Nodes.{node-perfect, node-leaves, node-fits, peak-node, within-fits}
use Rattle.merkle_forest.specs.Laws.Peaks.{leaf_count-pos}
use Rattle.merkle_forest.specs.Nodes.{HasNode, IsNodeAt, IsPeakAt}
use Rattle.merkle_forest.specs.Perfect.{IsPairing}
use Rattle.merkle_core_parts.specs.Laws.Plain.{leaf-place}
use Rattle.merkle_core_parts.specs.Mem.{node_count}
use Rattle.merkle_theory.specs.Plans.{Lookup}
use Rattle.merkle_theory.specs.MultiReads.{both_there}
use Rattle.state_theory.specs.GraftedNodes.{TwoTrees, chunks_node, grafted_lookup, known_or_made, node_over}
use Rattle.state_theory.specs.Verifier.{node_at}
use Rattle.state_theory.specs.Laws.GraftedNodes.{Aligned, Roots, node_over-is, node_over-some}
use Rattle.state_theory.specs.Laws.GraftedReads.{read-low, read-high}
use Rattle.state_theory.specs.Laws.GraftedTrees.{AreOver, left_over, right_over}
use Rattle.state_theory.specs.Laws.SameNodes.{AreBorn, in_chunks}
use Rattle.state_theory.specs.Laws.Verifier.{node_at-is}
use Rattle.state_current.specs.Settled.{IsSettled, IsAbove}

-- ---- what is there
first_some : (one other : Option (List ℕ)) → IsSome one → IsSome (option_or one other)
first_some None other some = absurd (let e : false ≡ true = some in cc)
first_some (Some x) other some = refl

other_some : (one other : Option (List ℕ)) → IsSome other → IsSome (option_or one other)
other_some None other some = some
other_some (Some x) other some = refl

both_some : (join : List ℕ → List ℕ → List ℕ) (one other : Option (List ℕ)) → IsSome one → IsSome other → IsSome (both_there join one other)
both_some join (Some x) (Some y) one two = refl
both_some join None other one two = absurd (let e : false ≡ true = one in cc)
both_some join (Some x) None one two = absurd (let e : false ≡ true = two in cc)

-- ---- peaks
-- one of this height begins at a location, or none does
pub peak_or_not : (first high : ℕ) (peaks : List Tree) → ((t : Tree) × IsPeakAt first t peaks × (height t ≡ high))
    ⊎ ((t : Tree) → IsPeakAt first t peaks → height t ≡ high → ⊥)
peak_or_not first high [] = inr (λ t stands same. stands)
peak_or_not first high (p ∷ ps) =
    elim (peak_or_not first high ps) [
      | inl it ↦ inl (it.0, inr it.1, it.2)
      | inr none ↦ (elim (cases_eq first (leaves ps)) [
        | inl begins ↦ (elim (cases_eq (height p) high) [
          | inl same ↦ inl (p, inl (begins, refl), same)
          | inr apart ↦ inr (λ t stands same. ⊎_elim (λ here. apart (ap height (sym here.1) ∙ same)) (λ later. none t later same) stands)
        ])
        | inr apart ↦ inr (λ t stands same. ⊎_elim (λ here. apart here.0) (λ later. none t later same) stands)
      ])
    ]

-- a peak stands over each leaf
pub covering : (peaks : List Tree) (i : ℕ) → i < leaves peaks
    → (first : ℕ) × (t : Tree) × IsPeakAt first t peaks × (first ≤ i) × (i < first + leaf_count t)
covering [] i lt = absurd (omega (arith, lt))
covering (p ∷ ps) i lt =
    elim (cases_lt i (leaves ps)) [
      | inl later ↦ (let it = covering ps i later in (it.0, it.1, inr it.2, it.3, it.4))
      | inr here ↦ (leaves ps, p, inl (refl, refl), here, omega (arith, lt))
    ]

-- a node over the first leaf of a peak stands in it
pub over_peak : (peaks : List Tree) (at first : ℕ) (node t : Tree) → IsNodeAt at node peaks → IsPeakAt first t peaks
    → at ≤ first → first < at + leaf_count node → leaf_count node ≤ leaf_count t
over_peak [] at first node t stands peak le lt = absurd stands
over_peak (p ∷ ps) at first node t (inl within) (inl peak) le lt =
    let fits = within-fits at (leaves ps) node p within in
    let same : leaf_count t ≡ leaf_count p = ap leaf_count peak.1 in
    omega (arith, fits.0, fits.1, same, peak.0, le)
over_peak (p ∷ ps) at first node t (inl within) (inr peak) le lt =
    let fits = within-fits at (leaves ps) node p within in
    absurd (omega (arith, fits.0, node-fits first t ps (peak-node first t ps peak), leaf_count-pos t, le))
over_peak (p ∷ ps) at first node t (inr stands) (inl peak) le lt =
    absurd (omega (arith, node-fits at node ps stands, peak.0, lt))
over_peak (p ∷ ps) at first node t (inr stands) (inr peak) le lt = over_peak ps at first node t stands peak le lt

-- ---- blocks that begin at multiples of their lengths
pub low_block : (first chunk d e k h : ℕ) → first ≡ d * 2 ^ k → chunk ≡ e * 2 ^ h → h ≤ k → first < chunk + 2 ^ h → first ≤ chunk
low_block first chunk d e k h one other high lt =
    let x : ℕ = 2 ^ h in
    let m : ℕ = d * 2 ^ (k - h) in
    let sum : (k - h) + h ≡ k = omega (arith, high) in
    let is : first ≡ m * x =
    one ∙ ap (λ i. d * 2 ^ i) (sym sum) ∙ ap (λ i. d * i) (pow-add 2 (k - h) h) ∙ sym (mul_assoc d (2 ^ (k - h)) (2 ^ h)) in
    elim (cases_lt e m) [
      | inl past ↦ absurd (let more : suc e * x ≤ m * x = mul-le (suc e) x m x past (omega arith) in
          let next : suc e * x ≡ e * x + x = omega arith in
          omega (arith, more, next, is, other, lt))
      | inr le ↦ (let few : m * x ≤ e * x = mul-le m x e x le (omega arith) in omega (arith, few, is, other))
    ]

module _ (rule : Rule) (root : ℕ → ℕ → ℕ) (pairs : IsPairing rule) (roots : Roots rule root) (aligned : Aligned rule) (hash : Hash)
    (n level c : ℕ) where
  -- no peak of the pruned chunks over this one is higher
  abbrev IsFree : ℕ → ℕ → Type 0
  IsFree chunk high = (first : ℕ) (peak : Tree) → IsPeakAt first peak (forest_of rule c) → first ≤ chunk → chunk < first + leaf_count peak
      → height peak ≤ high

  -- a peak of that height over a node's first chunk begins with it
  begins_there : (m first chunk : ℕ) (peak narrow : Tree) → IsPeakAt first peak (forest_of rule c) → IsNodeAt chunk narrow (forest_of rule m)
      → height peak ≡ height narrow → first ≤ chunk → chunk < first + leaf_count peak → first ≡ chunk
  begins_there m first chunk peak narrow stands there same le lt =
      let node = peak-node first peak (forest_of rule c) stands in
      let one = aligned c first peak node in
      let other = aligned m chunk narrow there in
      let long = (node-leaves rule pairs c first peak node).0 in
      let ge : chunk ≤ first =
      low_block chunk first other.0 one.0 (height narrow) (height peak) other.1 one.1 (omega (arith, same)) (omega (arith, lt, long)) in
      omega (arith, le, ge)

  module _ (lookup : Lookup)
      (pinned : (first : ℕ) (peak : Tree) → IsPeakAt first peak (forest_of rule c) → IsSome (lookup (position peak)))
      (known : (i : ℕ) → c ≤ i → HasNode (forest_of rule n) (i * 2 ^ level) level → IsSome (lookup (node_count rule i))) where
    pinned_same : (m first chunk : ℕ) (peak narrow : Tree) → IsPeakAt first peak (forest_of rule c) → IsNodeAt chunk narrow (forest_of rule m)
        → first ≡ chunk → height peak ≡ height narrow → IsSome (lookup (position narrow))
    pinned_same m first chunk peak narrow stands there begins high =
        let same : position peak ≡ position narrow =
        roots c first peak (peak-node first peak (forest_of rule c) stands) ∙ ap (root first) high
        ∙ ap (λ k. root k (height narrow)) begins ∙ sym (roots m chunk narrow there) in
        subst (λ p. IsSome (lookup p)) same (pinned first peak stands)

    there_free : (first chunk : ℕ) (wide narrow : Tree) → AreOver rule n level first chunk wide narrow → IsFree chunk (height narrow)
        → IsSome (known_or_made (chunks_node hash rule level) lookup narrow)
    there_free first chunk wide (leaf p) over free =
        elim (cases_lt chunk c) [
          | inl before ↦
              (let it = covering (forest_of rule c) chunk (omega (arith, before, leaves-forest_of rule pairs c)) in
              let low : height it.1 ≡ 0 = omega (arith, free it.0 it.1 it.2 it.3 it.4) in
              pinned_same over.count it.0 chunk it.1 (leaf p) it.2 over.chunks
              (begins_there over.count it.0 chunk it.1 (leaf p) it.2 over.chunks low it.3 it.4) low)
          | inr after ↦
              (let Stands : ℕ → Type 0 = λ k. IsNodeAt k wide (forest_of rule n) in
              let Some_at : ℕ → Type 0 = λ q. IsSome (lookup q) in
              subst Some_at (sym (leaf-place rule pairs over.count chunk p over.chunks))
              (known chunk after (wide, subst Stands over.begins over.operations, omega (arith, over.high))))
        ]
    there_free first chunk (leaf q) (branch p l r) over free =
        absurd (let high : 0 ≡ suc (height l) + level = over.high in omega (arith, high))
    there_free first chunk (branch q a b) (branch p l r) over free =
        let narrow : Tree = branch p l r in
        let node : IsNodeAt chunk narrow (forest_of rule over.count) = over.chunks in
        let perfect = node-perfect chunk narrow (forest_of rule over.count) (forest_of-perfect rule pairs over.count) node in
        let long : leaf_count l + leaf_count r ≡ 2 ^ height narrow = (node-leaves rule pairs over.count chunk narrow node).0 in
        let at = aligned over.count chunk narrow node in
        elim (peak_or_not chunk (height narrow) (forest_of rule c)) [
          | inl it ↦ first_some (lookup p) _ (pinned_same over.count chunk chunk it.0 narrow it.1 node refl it.2)
          | inr none ↦
              (let never : (f : ℕ) (peak : Tree) → IsPeakAt f peak (forest_of rule c) → f ≤ chunk → chunk < f + leaf_count peak
              → height narrow ≤ height peak → ⊥ =
              λ f peak stands le lt high.
              (let same : height peak ≡ height narrow = omega (arith, high, free f peak stands le lt) in
              none peak (subst (λ k. IsPeakAt k peak (forest_of rule c)) (begins_there over.count f chunk peak narrow stands node same le lt) stands) same) in
              let left_free : IsFree chunk (height l) =
              λ f peak stands le lt. (elim (cases_lt (height peak) (height narrow)) [
                | inl low ↦ omega (arith, low)
                | inr high ↦ absurd (never f peak stands le lt high)
              ]) in
              let right_free : IsFree (chunk + leaf_count l) (height r) =
              λ f peak stands le lt. (elim (cases_lt (height peak) (height narrow)) [
                | inl low ↦ omega (arith, low, perfect.0)
                | inr high ↦ absurd (
                    let it = aligned c f peak (peak-node f peak (forest_of rule c) stands) in
                    let le' : f ≤ chunk =
                    low_block f chunk it.0 at.0 (height peak) (height narrow) it.1 at.1 high (omega (arith, le, long, leaf_count-pos r)) in
                    never f peak stands le' (omega (arith, lt)) high)
              ]) in
              other_some (lookup p) _ (both_some (chunks_node hash rule level p) _ _
              (there_free first chunk a l (left_over rule pairs n level first chunk q p a b l r over) left_free)
              (there_free (first + leaf_count a) (chunk + leaf_count l) b r (right_over rule pairs n level first chunk q p a b l r over) right_free)))
        ]

    -- ---- a node of the grafted tree that stands above the pruned peaks
    abbrev trees_of : Lookup → TwoTrees
    trees_of operations = record { grafting_height = level; operations = operations; chunks = lookup }

    quotient_whole : (first d h : ℕ) → first ≡ d * 2 ^ h → level ≤ h → first ≡ (first / 2 ^ level) * 2 ^ level
    quotient_whole first d h at low =
        let sum : h - level + level ≡ h = omega (arith, low) in
        let spread : first ≡ (d * 2 ^ (h - level)) * 2 ^ level =
        at ∙ ap (λ k. d * 2 ^ k) (sym sum) ∙ ap (λ k. d * k) (pow-add 2 (h - level) level) ∙ sym (mul_assoc d (2 ^ (h - level)) (2 ^ level)) in
        let quotient : first / 2 ^ level ≡ d * 2 ^ (h - level) =
        ap (λ k. k / 2 ^ level) spread ∙ mul-div_cancel (d * 2 ^ (h - level)) (pow_pos level) in
        spread ∙ ap (λ k. k * 2 ^ level) (sym quotient)

    -- the peaks over a location's chunk
    chunk_free : (first high : ℕ) → IsAbove rule level c first high → (f : ℕ) (peak : Tree) → IsPeakAt f peak (forest_of rule c)
        → f ≤ first / 2 ^ level → first / 2 ^ level < f + leaf_count peak → height peak + level ≤ high
    chunk_free first high above f peak stands le lt =
        let x : ℕ = 2 ^ level in
        let parts = div-add-mod' first x in
        let small = mod_below first x (omega (arith, pow_pos level)) in
        let low : f * x ≤ (first / x) * x = mul-le f x (first / x) x le (omega arith) in
        let end : suc (first / x) * x ≤ (f + leaf_count peak) * x = mul-le (suc (first / x)) x (f + leaf_count peak) x lt (omega arith) in
        let next : suc (first / x) * x ≡ (first / x) * x + x = omega arith in
        above f peak stands (omega (arith, low, parts)) (omega (arith, end, next, parts, small))

    high_there : (birth : ℕ → ℕ → ℕ) → AreBorn rule birth → n ≤ 2 ^ 62 → (first d : ℕ) (tree : Tree) (got : Option Tree)
        → IsNodeAt first tree (forest_of rule n) → first ≡ d * 2 ^ height tree → level ≤ height tree → IsAbove rule level c first (height tree)
        → node_over rule (first / 2 ^ level) (height tree - level) ≡ got
        → IsSome (option_and_then (known_or_made (chunks_node hash rule level) lookup) got)
    high_there birth are few first d tree None stands at high above got =
        let sum : height tree - level + level ≡ height tree = omega (arith, high) in
        let Node : ℕ → Type 0 = λ k. HasNode (forest_of rule n) (d * 2 ^ k) k in
        let Stands : ℕ → Type 0 = λ k. IsNodeAt k tree (forest_of rule n) in
        let over : HasNode (forest_of rule n) (d * 2 ^ height tree) (height tree) = (tree, subst Stands at stands, refl) in
        let it = in_chunks rule birth pairs are n d (height tree - level) level few (subst Node (sym sum) over) in
        let quotient : first / 2 ^ level ≡ d * 2 ^ (height tree - level) =
        ap (λ k. k / 2 ^ level) (at ∙ ap (λ k. d * 2 ^ k) (sym sum) ∙ ap (λ k. d * k) (pow-add 2 (height tree - level) level)
        ∙ sym (mul_assoc d (2 ^ (height tree - level)) (2 ^ level))) ∙ mul-div_cancel (d * 2 ^ (height tree - level)) (pow_pos level) in
        let found : ◌≡◌ {A = Option Tree} None (Some it.2.0) =
        sym got ∙ ap (λ k. node_over rule k (height tree - level)) quotient
        ∙ node_over-is rule root pairs roots it.0 (d * 2 ^ (height tree - level)) (height tree - level) it.2.0 it.1 it.2.1 it.2.2 in
        absurd cc
    high_there birth are few first d tree (Some narrow) stands at high above got =
        let it = node_over-some rule (first / 2 ^ level) (height tree - level) narrow got in
        there_free first (first / 2 ^ level) tree narrow
        (record {
          few = few;
          operations = stands;
          count = 2 ^ 62;
          few_chunks = omega arith;
          chunks = it.0;
          begins = quotient_whole first d (height tree) at high;
          high = omega (arith, it.1, high);
        })
        (λ f peak peak_stands le lt. (let low = chunk_free first (height tree) above f peak peak_stands le lt in omega (arith, low, it.1, high)))

    pub node_there : (birth : ℕ → ℕ → ℕ) → AreBorn rule birth → n ≤ 2 ^ 62 → (operations : Lookup)
        → ((first : ℕ) (tree : Tree) → IsNodeAt first tree (forest_of rule n) → height tree < level → c * 2 ^ level ≤ first
        → IsSome (operations (position tree)))
        → (first : ℕ) (tree : Tree) → IsNodeAt first tree (forest_of rule n) → IsAbove rule level c first (height tree)
        → IsSome (grafted_lookup rule hash (trees_of operations) (position tree))
    node_there birth are few operations low_known first tree stands above =
        let trees : TwoTrees = trees_of operations in
        let p : ℕ = position tree in
        let at : node_at rule p ≡ Some (first, height tree) =
        node_at-is rule pairs first p (height tree) (tree, record { leaf_total = n; few = few; stands = stands; subtree = refl; level = refl }) in
        let part = aligned n first tree stands in
        elim (cases_lt (height tree) level) [
          | inl low ↦
              (let later : c * 2 ^ level ≤ first =
              (elim (cases_lt first (c * 2 ^ level)) [
                | inl before ↦ absurd (
                    let x : ℕ = 2 ^ level in
                    let parts = div-add-mod' first x in
                    let chunk_before : first / x < c =
                    (elim (cases_lt (first / x) c) [
                      | inl lt ↦ lt
                      | inr ge ↦ absurd (let more : c * x ≤ (first / x) * x = mul-le c x (first / x) x ge (omega arith) in
                          omega (arith, more, parts, before))
                    ]) in
                    let it = covering (forest_of rule c) (first / x) (omega (arith, chunk_before, leaves-forest_of rule pairs c)) in
                    omega (arith, low, chunk_free first (height tree) above it.0 it.1 it.2 it.3 it.4))
                | inr after ↦ after
              ]) in
              subst (λ o. IsSome o) (read-low rule hash trees p first (height tree) (operations p) at low refl) (low_known first tree stands low later))
          | inr high ↦
              subst (λ o. IsSome o) (read-high rule hash trees p first (height tree) at high)
              (high_there birth are few first part.0 tree (node_over rule (first / 2 ^ level) (height tree - level)) stands part.1 high above refl)
        ]

  -- ---- peaks stand above what is settled
  one_power : (a b : ℕ) → 2 ^ a ≤ 2 ^ b → a ≤ b
  one_power a b le =
      elim (cases_lt b a) [
        | inl past ↦ absurd (omega (arith, le, pow_below b a past))
        | inr low ↦ low
      ]

  pub peaks_above : IsSettled rule level n c → (first : ℕ) (tree : Tree) → IsPeakAt first tree (forest_of rule n)
      → IsAbove rule level c first (height tree)
  peaks_above settled first tree stands at peak peak_stands le lt =
      let it = settled at peak peak_stands in
      let node = node-leaves rule pairs n (at * 2 ^ level) it.0 it.1 in
      let own = node-leaves rule pairs n first tree (peak-node first tree (forest_of rule n) stands) in
      let small = (node-leaves rule pairs c at peak (peak-node at peak (forest_of rule c) peak_stands)).0 in
      let power : 2 ^ height it.0 ≡ leaf_count peak * 2 ^ level =
      ap (λ k. 2 ^ k) (sym it.2) ∙ pow-add 2 (height peak) level ∙ ap (λ k. k * 2 ^ level) (sym small) in
      let spread : (at + leaf_count peak) * 2 ^ level ≡ at * 2 ^ level + leaf_count peak * 2 ^ level = add-mul at (leaf_count peak) (2 ^ level) in
      let within = over_peak (forest_of rule n) (at * 2 ^ level) first it.0 tree it.1 stands le
      (omega (arith, lt, spread, power, node.0)) in
      let low : height it.0 ≤ height tree = one_power (height it.0) (height tree) (omega (arith, within, node.0, own.0)) in
      omega (arith, low, it.2)
