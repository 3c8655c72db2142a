-- Zeros at the end of a file.
use Rattle.std.proofs.Common.{◌≡◌, ℕ, ◌+◌, List, [], ◌∷◌, ◌++◌, replicate, ◌∙◌, ap, sym, append_assoc}
use Rattle.std.proofs.lemmas.List.{replicate_more}

-- one more of them
pub noted_more : {A : Type 0} (item : A) (front noted more : List A) (n m : ℕ) → noted ≡ front ++ replicate n item → more ≡ noted ++ item ∷ []
    → m ≡ n + 1 → more ≡ front ++ replicate m item
noted_more item front noted more n m is joins next =
    joins ∙ ap (λ l. l ++ item ∷ []) is ∙ append_assoc front (replicate n item) (item ∷ [])
    ∙ ap (λ l. front ++ l) (replicate_more n item ∙ ap (λ k. replicate k item) (sym next))
