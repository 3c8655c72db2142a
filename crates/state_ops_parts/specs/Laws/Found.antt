-- Items at the front of the bytes.
use Rattle.std.proofs.Common.{◌≡◌, ℕ, ◌-◌, List, [], ◌++◌, length, take, Ok, refl, ◌∙◌, ap, arith}
use Rattle.std.proofs.lemmas.List.{take_at, length-append}
use Rattle.merkle_forest.specs.Codec.{Outcome, ◌>>=◌}
use Rattle.state_ops_parts.specs.Grammar.{item_at, after_zeros, with_zeros}

-- what the grammar ends after, and what is spelled there, is the item at the front
pub item_is : (after : List ℕ → Outcome) (old spelled new : List ℕ) → after old ≡ Ok new → old ≡ spelled ++ new
    → item_at after old ≡ Ok (spelled, new)
item_is after old spelled new ends is =
    let long : length old - length new ≡ length spelled = omega (arith, ap length is, length-append spelled new) in
    let front : take (length old - length new) old ≡ spelled = ap (λ n. take n old) long ∙
    (ap (take (length spelled)) is ∙ take_at spelled new (length spelled) refl) in
    ap (λ x. x >>= λ rest. Ok (take (length old - length rest) old, rest)) ends ∙ ap (λ x. Ok (x, new)) front

-- zeros after an item end the bytes
pub zeros_with : {T : Type 0} (item : T) (rest : List ℕ) → after_zeros rest ≡ Ok []
    → with_zeros (item, rest) ≡ Ok (item, [])
zeros_with item rest zeros = rw zeros refl
