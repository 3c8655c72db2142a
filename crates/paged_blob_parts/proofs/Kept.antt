-- Pages that are kept.
use Rattle.std.proofs.Common.{◌≡◌, ◌⊎◌, ℕ, zero, suc, ◌+◌, ◌<◌, Bool, true}
use Rattle.std.proofs.Common.{false, not, List, [], ◌∷◌, ◌++◌, length, get_or, Contains}
use Rattle.std.proofs.Common.{sym, ◌∙◌, ap, subst, inl, inr, ⊎_elim, arith}
use Rattle.std.specs.List.{filter, remove}
use Rattle.std.proofs.lemmas.Bool.{cases_lt, cases_Bool, cond-true, cond-false, and_from, eq-eqb, not-true, both_ways}
use Rattle.std.proofs.lemmas.List.{map-append}
use Rattle.std.proofs.lemmas.List.Elements.{Contains-append_cases}
use Rattle.paged_blob_parts.specs.Caches.{Page, IsElsewhere, Loses, Forgets, Adds, IsGivenOne, AreGiven, page_given}
use Rattle.paged_blob_parts.specs.Chance.{page_at}
use Rattle.paged_blob_parts.specs.CachesCode.{page_of, pages_of, is_at}
use Rattle.paged_blob_parts.specs.declared.cache.CachedPage.{CachedPage}

cons_cases : (x : Page) (xs : List Page) (p : Page) → Contains (x ∷ xs) p → (p ≡ x) ⊎ Contains xs p
cons_cases x xs p (zero, below, is) = inl (sym is)
cons_cases x xs p (suc k, below, is) = inr (k, omega (arith, below), is)

there : (x : Page) (xs : List Page) (p : Page) → Contains xs p → Contains (x ∷ xs) p
there x xs p (k, below, is) = (suc k, omega (arith, below), is)

none : (p : Page) → Contains [] p → ⊥
none p (k, below, is) = omega (arith, below)

here : (x : Page) (xs : List Page) (p : Page) → p ≡ x → Contains (x ∷ xs) p
here x xs p is = (0, omega arith, sym is)

abbrev Passed : (CachedPage → Bool) → List CachedPage → Page → Type 0
Passed f xs p = Contains (pages_of xs) p × ((kept : CachedPage) × (p ≡ page_of kept) × (f kept ≡ true))

passed_more : (f : CachedPage → Bool) (x : CachedPage) (xs : List CachedPage) (p : Page) → Passed f xs p → Passed f (x ∷ xs) p
passed_more f x xs p (within, pass) = (there (page_of x) (pages_of xs) p within, pass)

-- what a filter keeps was there, and passed
pub filtered : (f : CachedPage → Bool) (xs : List CachedPage) (p : Page) → Contains (pages_of (filter f xs)) p → Passed f xs p
filtered f [] p within = absurd (none p within)
filtered f (x ∷ xs) p within =
    ⊎_elim
    (λ ok.
    let is : filter f (x ∷ xs) ≡ x ∷ filter f xs = cond-true _ _ _ ok in
    let P : List CachedPage → Type 0 = λ l. Contains (pages_of l) p in
    ⊎_elim
    (λ first. (here (page_of x) (pages_of xs) p first, (x, first, ok)))
    (λ later. passed_more f x xs p (filtered f xs p later))
    (cons_cases (page_of x) (pages_of (filter f xs)) p (subst P is within)))
    (λ no.
    let is : filter f (x ∷ xs) ≡ filter f xs = cond-false _ _ _ no in
    let P : List CachedPage → Type 0 = λ l. Contains (pages_of l) p in
    passed_more f x xs p (filtered f xs p (subst P is within)))
    (cases_Bool (f x))

-- pages of other places alone
pub forgets-filter : (blob_id number : ℕ) (xs ys : List CachedPage) → ys ≡ filter (λ kept. not (is_at blob_id number kept)) xs
    → Forgets (pages_of xs) (pages_of ys) blob_id number
forgets-filter blob_id number xs ys is = record {
  each = λ p within.
      let f : CachedPage → Bool = λ kept. not (is_at blob_id number kept) in
      let P : List CachedPage → Type 0 = λ l. Contains (pages_of l) p in
      let r = filtered f xs p (subst P is within) in
      let kept = r.1.0 in (
        r.0,
        λ (blob, place). both_ways (is_at blob_id number kept) (not-true _ r.1.2)
            (and_from _ _ (eq-eqb _ _ (sym (ap (λ q. q.blob_id) r.1.1) ∙ blob)) (eq-eqb _ _ (sym (ap (λ q. q.number) r.1.1) ∙ place))),
      );
}

-- without the first, each page was there
pub without_first : (xs : List CachedPage) → Loses (pages_of xs) (pages_of (remove xs 0))
without_first [] = record { each = λ p within. within }
without_first (x ∷ xs) = record { each = λ p within. there (page_of x) (pages_of xs) p within }

pub loses_none : (pages : List Page) → Loses pages pages
loses_none pages = record { each = λ p within. within }

-- one page more
pub one_more : (xs : List CachedPage) (x : CachedPage) → Adds (pages_of xs) (pages_of (xs ++ x ∷ [])) (page_of x)
one_more xs x = record {
  each = λ p within.
      let P : List Page → Type 0 = λ l. Contains l p in
      ⊎_elim
      (λ before. inr before)
      (λ last. ⊎_elim (λ is. inl is) (λ more. absurd (none p more)) (cons_cases (page_of x) [] p last))
      (Contains-append_cases (pages_of xs) (page_of x ∷ []) p (subst P (map-append page_of xs (x ∷ [])) within));
}

pub adds_none : (pages : List Page) (given : Page) → Adds pages pages given
adds_none pages given = record { each = λ p within. inr within }

-- one after the other
pub forgotten : (old less few : List Page) (given : Page) → Forgets old less given.blob_id given.number → Loses less few → IsGivenOne old few given
forgotten old less few given f l = record { each = λ p within. inr (f.each p (l.each p within)) }

pub kept : (old less few new : List Page) (given : Page) → Forgets old less given.blob_id given.number → Loses less few → Adds few new given
    → IsGivenOne old new given
kept old less few new given f l a = record {
  each = λ p within. ⊎_elim (λ is. inl is) (λ before. inr (f.each p (l.each p before))) (a.each p within);
}

-- no page was given yet
pub given_none : (pages : List Page) (blob_id first size : ℕ) (bytes : List ℕ) → AreGiven pages pages blob_id first size bytes 0
given_none pages blob_id first size bytes = record { each = λ p within. inr (within, λ k below. absurd (omega (arith, below))) }

page_with : ℕ → ℕ → List ℕ → Page
page_with blob_id number bytes = record { blob_id = blob_id; number = number; bytes = bytes }

-- one page more was given
pub given_more : (old mid new : List Page) (blob_id first size : ℕ) (bytes : List ℕ) (count number : ℕ) (page : List ℕ)
    → AreGiven old mid blob_id first size bytes count → number ≡ first + count → page ≡ page_at size count bytes
    → IsGivenOne mid new (record { blob_id = blob_id; number = number; bytes = page }) → AreGiven old new blob_id first size bytes (count + 1)
unfolding page_with
given_more old mid new blob_id first size bytes count number page before number_is page_is one = record {
  each = λ p within.
      ⊎_elim
      (λ is.
      let same : record { blob_id = blob_id; number = number; bytes = page } ≡ page_given blob_id first size bytes count =
      ap (λ n. page_with blob_id n page) number_is ∙ ap (page_with blob_id (first + count)) page_is in
      inl (count, omega arith, is ∙ same))
      (λ (mid_has, other). ⊎_elim
      (λ (k, below, is). inl (k, omega (arith, below), is))
      (λ (old_has, others). inr (
        old_has,
        λ k below.
            ⊎_elim
            (λ less. others k less)
            (λ from (blob, place). other (blob, place ∙ omega (arith, number_is, from, below)))
            (cases_lt k count),
      ))
      (before.each p mid_has))
      (one.each p within);
}

-- where none of the pages is at a place, each is elsewhere
pub none_at : (blob_id number : ℕ) (xs : List CachedPage)
    → ((k : ℕ) (d : CachedPage) → k < length xs → is_at blob_id number (get_or xs k d) ≡ false)
    → (p : Page) → Contains (pages_of xs) p → IsElsewhere blob_id number p
none_at blob_id number [] off p within = absurd (none p within)
none_at blob_id number (x ∷ xs) off p within =
    ⊎_elim
    (λ is (blob, place). both_ways (is_at blob_id number x) (off 0 x (omega arith))
    (and_from _ _ (eq-eqb _ _ (sym (ap (λ q. q.blob_id) is) ∙ blob)) (eq-eqb _ _ (sym (ap (λ q. q.number) is) ∙ place))))
    (λ later. none_at blob_id number xs (λ k d below. off (suc k) d (omega (arith, below))) p later)
    (cons_cases (page_of x) (pages_of xs) p within)

-- the page at a place is among those that are kept
pub at_index : (xs : List CachedPage) (k : ℕ) (d : CachedPage) (p : Page) → k < length xs → p ≡ page_of (get_or xs k d) → Contains (pages_of xs) p
at_index [] k d p below is = absurd (omega (arith, below))
at_index (x ∷ xs) zero d p below is = here (page_of x) (pages_of xs) p is
at_index (x ∷ xs) (suc k) d p below is = there (page_of x) (pages_of xs) p (at_index xs k d p (omega (arith, below)) is)
