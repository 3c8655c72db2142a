-- A cut, from the calls of its parts.
use Rattle.std.proofs.Common.{◌≡◌, ◌⊎◌, ℕ, ◌<◌, ◌≤◌, true, false, min, List, ◌∷◌, length, take, Result, sym, ◌∙◌, ap}
use Rattle.std.proofs.Common.{inl, inr, ⊎_elim, subst, arith}
use Rattle.std.proofs.lemmas.Bool.{cases_lt}
use Rattle.std.proofs.lemmas.List.{take-take, take_all}
use Rattle.paged_format.specs.Pages.{recovered}
use Rattle.paged_blob_parts.specs.Calls.{Call, synced, file_of, content}
use Rattle.paged_blob_parts.specs.Moments.{Through, here}
use Rattle.paged_blob_parts.specs.Answers.{RecordsSync}
use Rattle.paged_blob_parts.specs.Writers.{Keeps}
use Rattle.paged_blob_parts.specs.Shrinks.{Withstands}
use Rattle.paged_blob_parts.specs.declared.error.Error.{Error}
use Rattle.paged_blob_parts.specs.Laws.Moments.{goes_on_sync, weaker, joined}
use Rattle.paged_blob_parts.specs.Laws.Durable.{withstands_keeps}
use Rattle.paged_blob_parts.proofs.Shown.{shown_withstands}

-- as much as there is
pub take_min : (n : ℕ) (bytes : List ℕ) → take (min n (length bytes)) bytes ≡ take n bytes
take_min n bytes =
    ⊎_elim
    (λ less. let is : min n (length bytes) ≡ n = omega (arith, less) in ap (λ m. take m bytes) is)
    (λ more.
    let is : min n (length bytes) ≡ length bytes = omega (arith, more) in
    ap (λ m. take m bytes) is ∙ take_all (length bytes) bytes (omega arith) ∙ sym (take_all n bytes more))
    (cases_lt n (length bytes))

-- what keeps so many bytes keeps fewer
pub keeps_less : (sum : List ℕ → ℕ) (size : ℕ) (old : List ℕ) (count less : ℕ) (calls : List Call) → less ≤ count
    → Keeps sum size old count calls
    → Keeps sum size old less calls
keeps_less sum size old count less calls fewer keeps = λ image is.
    let k = keeps image is in
    record {
      keeps = sym (take-take less count (recovered sum size image) fewer) ∙ ap (take less) k.keeps ∙ take-take less count old fewer;
      prefix = λ none. let p = k.prefix none in (p.0, omega (arith, p.1, fewer), p.2, p.3);
    }

-- making all durable keeps what was
pub settle_moments : {T : Type 0} (sum : List ℕ → ℕ) (size : ℕ) (footer : 12 < size) (result : Result T Error) (calls new : List Call) (count : ℕ)
    → (file_of calls).failed ≡ false → Withstands sum size (recovered sum size (content calls)) count (file_of calls)
    → (new ≡ calls) ⊎ RecordsSync result calls new → Through (Keeps sum size (recovered sum size (content calls)) count) calls new
settle_moments sum size footer result calls new count sound w (inl same) =
    let old = recovered sum size (content calls) in
    let P : List Call → Type 0 = λ l. Through (Keeps sum size old count) calls l in
    subst P (sym same) (here (withstands_keeps sum size (omega (arith, footer)) old count calls w))
settle_moments sum size footer result calls new count sound w (inr records) =
    let old = recovered sum size (content calls) in
    let kept = withstands_keeps sum size (omega (arith, footer)) old count calls w in
    goes_on_sync (Keeps sum size old count) calls calls new result (here kept) records
    (λ bytes durable.
    let now = synced bytes true ∷ calls in
    let all = withstands_keeps sum size (omega (arith, footer)) (recovered sum size bytes) (length (recovered sum size bytes)) now
    (shown_withstands sum size footer bytes false) in
    let is : recovered sum size bytes ≡ old = ap (recovered sum size) (durable.content sound) in
    let Q : List ℕ → Type 0 = λ l. Keeps sum size l (length l) now in
    keeps_less sum size old (length old) count now w.within (subst Q is all))
    kept

-- and then cutting
pub cut_moments : (sum : List ℕ → ℕ) (size : ℕ) (calls mid new : List Call) (count asked kept : ℕ)
    → (file_of mid).base ≡ content calls → min asked (length (recovered sum size (content calls))) ≡ kept
    → count ≤ length (recovered sum size (content calls))
    → Through (Keeps sum size (recovered sum size (content calls)) count) calls mid
    → Through (Keeps sum size (recovered sum size (file_of mid).base) kept) mid new
    → Through (Keeps sum size (recovered sum size (content calls)) (min asked count)) calls new
cut_moments sum size calls mid new count asked kept base kept_is within first second =
    let old = recovered sum size (content calls) in
    let P : List ℕ → Type 0 = λ l. Through (Keeps sum size (recovered sum size l) kept) mid new in
    let then_on : Through (Keeps sum size old kept) mid new = subst P base second in
    joined (weaker (λ now. keeps_less sum size old count (min asked count) now (omega arith)) first)
    (weaker (λ now. keeps_less sum size old kept (min asked count) now (omega (arith, kept_is, within))) then_on)

-- all of it: making all durable, and then cutting behind so many bytes
pub part_moments : {T : Type 0} (sum : List ℕ → ℕ) (size : ℕ) (footer : 12 < size) (result : Result T Error) (calls mid new : List Call)
    (count asked kept len part : ℕ) → (file_of calls).failed ≡ false
    → Withstands sum size (recovered sum size (content calls)) count (file_of calls) → (mid ≡ calls) ⊎ RecordsSync result calls mid
    → (file_of mid).base ≡ content calls → len ≡ length (recovered sum size (content calls)) → kept ≡ min asked len → part ≡ kept
    → Through (Keeps sum size (recovered sum size (file_of mid).base) part) mid new
    → Through (Keeps sum size (recovered sum size (content calls)) (min asked count)) calls new
part_moments sum size footer result calls mid new count asked kept len part sound w records base known kept_is part_is second =
    let P : ℕ → Type 0 = λ n. Through (Keeps sum size (recovered sum size (file_of mid).base) n) mid new in
    cut_moments sum size calls mid new count asked kept base (omega (arith, known, kept_is)) w.within
    (settle_moments sum size footer result calls mid count sound w records) (subst P part_is second)

-- what is then left
pub cut_taken : (sum : List ℕ → ℕ) (size : ℕ) (calls mid : List Call) (asked kept len part : ℕ) → (file_of mid).base ≡ content calls
    → len ≡ length (recovered sum size (content calls)) → kept ≡ min asked len → part ≡ kept
    → take part (recovered sum size (file_of mid).base) ≡ take asked (recovered sum size (content calls))
cut_taken sum size calls mid asked kept len part base known kept_is part_is =
    let old = recovered sum size (content calls) in
    let least : part ≡ min asked (length old) = omega (arith, known, kept_is, part_is) in
    ap (λ n. take n (recovered sum size (file_of mid).base)) least
    ∙ ap (λ b. take (min asked (length old)) (recovered sum size b)) base ∙ take_min asked old
