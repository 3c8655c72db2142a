use Rattle.std.proofs.Common.{◌≡◌, ◌≢◌, ℕ, zero, suc, ◌-◌, ◌<◌, List, []}
use Rattle.std.proofs.Common.{◌∷◌, length, slice_index_or, Some, None, refl, sym, ◌∙◌, ap, arith}
use Rattle.std.proofs.lemmas.Bool.{eq-eqb, ne_eqb, cond-true, cond-false}
use Rattle.std.proofs.Common.{eqb}
use Rattle.std.specs.Option.{option_map}
use Rattle.merkle_forest.specs.Forest.{first_pair_from, mmb_rule}
use Rattle.merkle_forest.proofs.mmb.FamilyFamily.merge_index.Goals as goal

-- the first two neighbours of one height, where those before differ
found : (a : ℕ) (heights : List ℕ) (i : ℕ) → i < length heights
    → ((j : ℕ) → j < i → slice_index_or (a ∷ heights) j 0 ≢ slice_index_or heights j 0)
    → slice_index_or (a ∷ heights) i 0 ≡ slice_index_or heights i 0 → first_pair_from a heights ≡ Some i
found a [] i within differ same = absurd (omega (arith, within))
found a (b ∷ heights) zero within differ same =
    cond-true (eqb a b) (Some 0) (option_map (λ index. suc index) (first_pair_from b heights)) (eq-eqb a b same)
found a (b ∷ heights) (suc i) within differ same =
    cond-false (eqb a b) (Some 0) (option_map (λ index. suc index) (first_pair_from b heights))
    (ne_eqb a b (differ 0 (omega arith)))
    ∙ ap (option_map (λ index. suc index))
    (found b heights i (omega (arith, within)) (λ j lt. differ (suc j) (omega (arith, lt))) same)

none : (a : ℕ) (heights : List ℕ)
    → ((j : ℕ) → j < length heights → slice_index_or (a ∷ heights) j 0 ≢ slice_index_or heights j 0)
    → first_pair_from a heights ≡ None
none a [] differ = refl
none a (b ∷ heights) differ =
    cond-false (eqb a b) (Some 0) (option_map (λ index. suc index) (first_pair_from b heights))
    (ne_eqb a b (differ 0 (omega arith)))
    ∙ ap (option_map (λ index. suc index)) (none b heights (λ j lt. differ (suc j) (omega (arith, lt))))

rule-found : (merges next : ℕ) (heights : List ℕ) → merges ≡ 0 → 0 < next → next < length heights
    → ((i : ℕ) → suc i < next → slice_index_or heights i 0 ≢ slice_index_or heights (suc i) 0)
    → slice_index_or heights (next - 1) 0 ≡ slice_index_or heights next 0 → Some (next - 1) ≡ mmb_rule merges heights
rule-found merges next [] first some within differ same = absurd (omega (arith, within))
rule-found merges next (a ∷ heights) first some within differ same =
    let last : next ≡ suc (next - 1) = omega (arith, some) in
    sym (ap (λ m. mmb_rule m (a ∷ heights)) first
    ∙ found a heights (next - 1) (omega (arith, some, within)) (λ j lt. differ j (omega (arith, lt)))
    (same ∙ ap (λ i. slice_index_or (a ∷ heights) i 0) last))

rule-none : (merges : ℕ) (heights : List ℕ) → merges ≡ 0
    → ((i : ℕ) → suc i < length heights → slice_index_or heights i 0 ≢ slice_index_or heights (suc i) 0)
    → None ≡ mmb_rule merges heights
rule-none merges [] first differ = sym (ap (λ m. mmb_rule m []) first)
rule-none merges (a ∷ heights) first differ =
    sym (ap (λ m. mmb_rule m (a ∷ heights)) first ∙ none a heights (λ j lt. differ j (omega (arith, lt))))

pub returns-then-heights-index : goal.returns-then-heights-index
returns-then-heights-index c =
    rule-found c.args.merges c.loop-index.index c.args.heights.now c.loop-index.invariant.0
    (omega (arith, c.loop-index.auto.index)) c.loop-index-test.true c.loop-index.invariant.1 c.if-heights-index.true

pub returns : goal.returns
returns c =
    rule-none c.args.merges c.args.heights.now c.loop-index.invariant.0
    (λ i lt. c.loop-index.invariant.1 i (omega (arith, lt, c.loop-index-test.false)))
