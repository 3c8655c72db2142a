-- An opening of the store that fails, by that of the store below.
use Rattle.std.proofs.Common.{◌≡◌, ◌+◌, ◌-◌, ◌^◌, ◌<◌, ℕ, List, Result, Ok, Err, refl, ap, sym, ◌∙◌, subst, inl, inr}
use Rattle.rand_core.specs.Stream.{Stream}
use Rattle.fault_storage_parts.specs.declared.error.Call.{Call}
use Rattle.fault_storage_parts.specs.declared.error.Call.TheVariants.{Open}
use Rattle.fault_storage_parts.specs.declared.error.Error.{Error}
use Rattle.fault_storage_parts.specs.declared.error.Error.TheVariants.{Injected, NumberEnded, Memory}
use Rattle.fault_storage_parts.specs.declared.header.Versions.{Versions}
use Rattle.fault_storage_parts.specs.declared.probability.Probability.{Probability}
use Rattle.fault_storage.specs.declared.faulty.Blob.{Blob}
use Rattle.fault_storage.specs.declared.faulty.Storage.{Storage}
use Rattle.fault_storage.specs.declared.storage.Opened.{Opened}
use Rattle.fault_storage.specs.Stores.{Store, Handle}
use Rattle.fault_storage.specs.Directory.{MemoryOpens}
use Rattle.fault_storage.specs.Faults.{IsNotMade, IsDrawnCall, IsFaultyCall, FaultyOpens, unwrapped}

module _ {R : Type 0} (stream : R → Stream) (rate : Probability) (partition name : List ℕ) (versions : Versions) (old : Storage Store R) (left : Store)
    (rng : R) (result : Result (Opened Handle) Error) (room : old.injections < 2 ^ 64 - 1)
    (call : IsDrawnCall stream Open rate (λ below. MemoryOpens below partition name versions) old.inner old.rng result left rng) where
  abbrev now : Storage Store R
  now = record old { inner = left; rng = rng }

  abbrev Opens : Store → Result (Opened Handle) Error → Store → Type 0
  Opens below = MemoryOpens below partition name versions

  pub call_opened : (opened : Opened Handle) (made : Opened (Blob Handle)) → result ≡ Ok opened → unwrapped made ≡ opened
      → IsFaultyCall stream Open rate (FaultyOpens partition name versions) old (Ok made) now
  call_opened opened made is wrapped = at call
    where
      at : IsDrawnCall stream Open rate Opens old.inner old.rng result left rng
          → IsFaultyCall stream Open rate (FaultyOpens partition name versions) old (Ok made) now
      at (inl (inl ended, answers, same, kept)) = cc
      at (inl (inr wanting, answers, same, kept)) = cc
      at (inr (inl (drawn, injected, same, words))) = cc
      at (inr (inr (drawn, no_end, answers, words))) = inr (inr (inr (
        room,
        drawn,
        not_made,
        subst (λ (r : Result (Opened Handle) Error). Opens old.inner r left) (is ∙ ap Ok (sym wrapped)) answers,
        refl,
        words,
      )))
        where
          not_made : IsNotMade {T = Opened (Blob Handle)} (Ok made) → ⊥
          not_made (inl is) = cc
          not_made (inr is) = cc

  pub call_refused : (e : Error) → result ≡ Err e → ((injected : Call) → e ≡ Injected injected → ⊥)
      → IsFaultyCall stream Open rate (FaultyOpens partition name versions) old (Err e) now
  call_refused e is other = at call
    where
      at : IsDrawnCall stream Open rate Opens old.inner old.rng result left rng
          → IsFaultyCall stream Open rate (FaultyOpens partition name versions) old (Err e) now
      at (inl (made, answers, same, kept)) = inr (inl (
        room,
        not_made made,
        subst (λ (r : Result (Opened Handle) Error). Opens old.inner r old.inner) is answers,
        ap (λ s. record old { inner = s; rng = rng }) same ∙ ap (λ r. record old { rng = r }) kept,
      ))
        where
          not_made : IsNotMade result → IsNotMade {T = Opened (Blob Handle)} (Err e)
          not_made (inl ended) = let same : e ≡ NumberEnded = cc in inl (ap Err same)
          not_made (inr wanting) = let same : e ≡ Memory = cc in inr (ap Err same)
      at (inr (inl (drawn, injected, same, words))) = let told : e ≡ Injected Open = cc in absurd (other Open told)
      at (inr (inr (drawn, no_end, answers, words))) = inr (inr (inr (
        room,
        drawn,
        λ m. no_end (back m),
        subst (λ (r : Result (Opened Handle) Error). Opens old.inner r left) is answers,
        refl,
        words,
      )))
        where
          back : IsNotMade {T = Opened (Blob Handle)} (Err e) → IsNotMade result
          back (inl ended) = let same : e ≡ NumberEnded = cc in inl (is ∙ ap Err same)
          back (inr wanting) = let same : e ≡ Memory = cc in inr (is ∙ ap Err same)
