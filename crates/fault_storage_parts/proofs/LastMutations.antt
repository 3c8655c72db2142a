-- The mutation that was issued last, put otherwise.
use Rattle.std.proofs.Common.{◌≡◌, ◌++◌, ◌∷◌, [], List, refl, ap, sym, subst, ◌∙◌, zero, suc, Some, arith}
use Rattle.std.specs.List.{All}
use Rattle.std.proofs.lemmas.List.{map-append}
use Rattle.std.proofs.lemmas.List.Elements.{All-append, All-pop}
use Rattle.fault_storage_parts.specs.declared.file.Mutation as code
use Rattle.fault_storage_parts.specs.Files.{Mutation}
use Rattle.fault_storage_parts.specs.FilesCode.{mutation_of, log_of}
use Rattle.fault_storage_parts.specs.Revisions.{recast}

pub recast-snoc : (change : Mutation → Mutation) (log : List Mutation) (mutation : Mutation)
    → recast change (log ++ mutation ∷ []) ≡ log ++ change mutation ∷ []
recast-snoc change [] mutation = refl
recast-snoc change (first ∷ []) mutation = refl
recast-snoc change (first ∷ next ∷ later) mutation = ap (λ l. first ∷ l) (recast-snoc change (next ∷ later) mutation)

-- a log whose last mutation is another
pub recast-put : (change : Mutation → Mutation) (old rest new : List code.Mutation) (last put : code.Mutation) → old ≡ rest ++ last ∷ []
    → new ≡ rest ++ put ∷ []
    → mutation_of put ≡ change (mutation_of last) → log_of new ≡ recast change (log_of old)
recast-put change old rest new last put taken made is =
    ap log_of made ∙ map-append mutation_of rest (put ∷ []) ∙ ap (λ m. log_of rest ++ m ∷ []) is
    ∙ sym (recast-snoc change (log_of rest) (mutation_of last))
    ∙ ap (recast change) (sym (ap log_of taken ∙ map-append mutation_of rest (last ∷ [])))

-- it holds of the one
All-one : (P : code.Mutation → Type 0) (mutation : code.Mutation) → P mutation → All P (mutation ∷ [])
All-one P mutation holds zero d below = holds
All-one P mutation holds (suc k) d below = absurd (omega arith)

-- what holds of each of a log holds of each of it with another at its end, if it does of that
pub room-put : (P : code.Mutation → Type 0) (old rest new : List code.Mutation) (last put : code.Mutation) → All P old → old ≡ rest ++ last ∷ []
    → new ≡ rest ++ put ∷ []
    → (P last → P put) → All P new
room-put P old rest new last put all taken made stays =
    let parts : All P rest × P last = All-pop P old rest (Some last) taken all in
    subst (λ (l : List code.Mutation). All P l) (sym made) (All-append P rest (put ∷ []) parts.0 (All-one P put (stays parts.1)))
