-- What reads leave, one after the other.
use Rattle.std.proofs.Common.{◌≡◌, ◌≤◌, ℕ, Some, ap, subst, sym, refl, ◌∙◌, arith}
use Rattle.paged_blob_parts.specs.Answers.{Failures}
use Rattle.paged_blob_parts.specs.Caches.{Cache}
use Rattle.paged_blob_parts.specs.Writers.{WriterState}
use Rattle.auth_store_log.specs.Records.{Format}
use Rattle.auth_store_log.specs.declared.error.LogError.{LogError}
use Rattle.auth_store_machine.specs.Reads.{Over, IsReadable, Leads, Refuses, ReaderState, MayRead, LeadsTo, RefusesAt}
use Rattle.auth_store_machine.specs.Refusals.{of_log}
use Rattle.auth_store_machine.specs.Stores.{IsReadRefusal, Raises}

-- no read leaves all as it was
pub leads_none : (blob kept : ℕ) (format : Format) (writer : WriterState) (now : Over)
    → (blob ≡ blob) × (kept ≡ kept) × (writer ≡ writer) × Leads format writer now now
leads_none blob kept format writer now = (
  refl,
  refl,
  refl,
  record { calls = refl; failures = refl; left = omega arith; cache = refl; readable = λ is. is },
)

module _ (blob0 kept0 blob1 kept1 blob2 kept2 : ℕ) (format : Format) (writer0 writer1 writer2 : WriterState)
    (one mid other : Over) where
  pages_same : mid.cache ≡ record one.cache { pages = mid.cache.pages }
      → other.cache ≡ record mid.cache { pages = other.cache.pages }
      → other.cache ≡ record one.cache { pages = other.cache.pages }
  pages_same first second = second ∙ ap (λ (k : Cache). record k { pages = other.cache.pages }) first

  pub leads_more : (blob1 ≡ blob0) × (kept1 ≡ kept0) × (writer1 ≡ writer0) × Leads format writer0 one mid
      → (blob2 ≡ blob1) × (kept2 ≡ kept1) × (writer2 ≡ writer1) × Leads format writer1 mid other
      → (blob2 ≡ blob0) × (kept2 ≡ kept0) × (writer2 ≡ writer0) × Leads format writer0 one other
  leads_more (b, k, w, first) (c, l, v, later) =
      let second = subst (λ (x : WriterState). Leads format x mid other) w later in (
        c ∙ b,
        l ∙ k,
        v ∙ w,
        record {
          calls = second.calls ∙ first.calls;
          failures = second.failures ∙ first.failures;
          left = omega (arith, first.left, second.left);
          cache = pages_same first.cache second.cache;
          readable = λ is. second.readable (first.readable is);
        },
      )

  pub refuses_more : (error : LogError)
      → (blob1 ≡ blob0) × (kept1 ≡ kept0) × (writer1 ≡ writer0) × Leads format writer0 one mid
      → (blob2 ≡ blob1) × (kept2 ≡ kept1) × (writer2 ≡ writer1) × Refuses format writer1 mid other error
      → (blob2 ≡ blob0) × (kept2 ≡ kept0) × (writer2 ≡ writer0) × Refuses format writer0 one other error
  refuses_more error (b, k, w, first) (c, l, v, later) =
      let second = subst (λ (x : WriterState). Refuses format x mid other error) w later in (
        c ∙ b,
        l ∙ k,
        v ∙ w,
        record {
          calls = second.calls ∙ first.calls;
          raised = subst (λ (f : Failures). Raises (Some (of_log error)) f other.failures) first.failures second.raised;
          opened = second.opened ∙ ap (λ (f : Failures). f.is_open) first.failures;
          settings = second.settings ∙ ap (λ (f : Failures). f.settings) first.failures;
          left = omega (arith, first.left, second.left);
          cache = pages_same first.cache second.cache;
          readable = λ is. second.readable (first.readable is);
          cause = λ is. subst (λ (f : Failures). IsReadRefusal f other.failures (of_log error)) first.failures
              (second.cause (first.readable is));
        },
      )

-- a log that may be read may be behind reads
pub readable_more : (blob0 kept0 blob1 kept1 : ℕ) (format : Format) (writer0 writer1 : WriterState) (one other : Over)
    → (blob1 ≡ blob0) × (kept1 ≡ kept0) × (writer1 ≡ writer0) × Leads format writer0 one other
    → IsReadable format one writer0 → IsReadable format other writer1
readable_more blob0 kept0 blob1 kept1 format writer0 writer1 one other (b, k, w, led) is =
    subst (IsReadable format other) (sym w) (led.readable is)

-- ---- so of readers

pub reads_none : {R : Type 0} (format : Format) (seen : R → ReaderState) (reader : R)
    → LeadsTo format seen reader reader
reads_none format seen reader = leads_none _ _ format _ _

pub reads_more : {R : Type 0} (format : Format) (seen : R → ReaderState) (one mid other : R)
    → LeadsTo format seen one mid → LeadsTo format seen mid other → LeadsTo format seen one other
reads_more format seen one mid other first second = leads_more _ _ _ _ _ _ format _ _ _ _ _ _ first second

pub reads_refused : {R : Type 0} (format : Format) (seen : R → ReaderState) (one mid other : R) (error : LogError)
    → LeadsTo format seen one mid → RefusesAt format seen mid other error → RefusesAt format seen one other error
reads_refused format seen one mid other error first second =
    refuses_more _ _ _ _ _ _ format _ _ _ _ _ _ error first second

pub reads_on : {R : Type 0} (format : Format) (seen : R → ReaderState) (one other : R)
    → LeadsTo format seen one other → MayRead format seen one → MayRead format seen other
reads_on format seen one other led is = readable_more _ _ _ _ format _ _ _ _ led is
