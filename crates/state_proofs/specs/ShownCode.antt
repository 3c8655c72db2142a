-- What is shown with a proof over a range, as the code holds it.
use Rattle.std.specs.Prelude.{ℕ, List, map}
use denote.Ref.{Bor}
use Rattle.state_proofs.specs.declared.proof.verifying.Shown.{Shown as CodeShown}
use Rattle.state_theory.specs.Verified.{Shown}

-- from the bytes of each chunk
abbrev pub form_shown_of : {C : Type 0} → (C → List ℕ) → CodeShown C → Shown
form_shown_of chunk shown = record {
  start = shown.start;
  operations = map (λ operation. operation.now) shown.operations.now;
  chunks = map chunk shown.chunks.now;
  width = shown.chunk_size.width;
}

-- of slices
abbrev pub shown_of : CodeShown (Bor (List ℕ)) → Shown
shown_of shown = form_shown_of (λ chunk. chunk.now) shown
