-- Updates are read again, and have one size where their fields have.
use Rattle.std.proofs.Common.{◌≡◌, ℕ, ◌+◌, List, ◌++◌, length, append_assoc, Ok, ◌∙◌, ap, arith}
use Rattle.std.proofs.lemmas.List.{length-append}
use Rattle.merkle_forest.specs.Codec.{Outcome, ◌>>=◌}
use Rattle.state_ops_parts.specs.Grammar.{Ends}

pub two_again : (first second : List ℕ → Outcome) (a b rest : List ℕ) → Ends first a → Ends second b
    → (first ((a ++ b) ++ rest) >>= second) ≡ Ok rest
two_again first second a b rest ends_a ends_b =
    ap (λ x. first x >>= second) (append_assoc a b rest) ∙ (ap (λ x. x >>= second) (ends_a (b ++ rest)) ∙ ends_b rest)

pub three_again : (key value : List ℕ → Outcome) (k v n rest : List ℕ) → Ends key k → Ends value v → Ends key n
    → (key ((k ++ (v ++ n)) ++ rest) >>= value >>= key) ≡ Ok rest
three_again key value k v n rest ends_k ends_v ends_n =
    ap (λ x. key x >>= value >>= key) (append_assoc k (v ++ n) rest)
    ∙ (ap (λ x. x >>= value >>= key) (ends_k ((v ++ n) ++ rest)) ∙ two_again value key v n rest ends_v ends_n)

pub two_sized : (a b : List ℕ) (m n : ℕ) → length a ≡ m → length b ≡ n → length (a ++ b) ≡ m + n
two_sized a b m n long_a long_b = omega (arith, length-append a b, long_a, long_b)

pub three_sized : (k v n : List ℕ) (key value : ℕ) → length k ≡ key → length v ≡ value → length n ≡ key
    → length (k ++ (v ++ n)) ≡ key + value + key
three_sized k v n key value long_k long_v long_n =
    omega (arith, length-append k (v ++ n), length-append v n, long_k, long_v, long_n)
