-- The hasher of the grafted tree, as the code holds it.
use Rattle.std.specs.Prelude.{ℕ, List, map}
use denote.Ref.{Bor}
use Rattle.state_proofs_parts.specs.declared.grafting.verifier.Verifier.{Verifier}
use Rattle.state_theory.specs.Verifier.{Given}

-- the chunks that it is given, from the bytes of each
abbrev pub form_given_of : {F H C : Type 0} → (C → List ℕ) → Verifier F H C → Given
form_given_of chunk verifier = record {
  grafting_height = verifier.grafting_height;
  first = verifier.start_chunk_index;
  chunks = map chunk verifier.chunks.now;
  graftable = verifier.graftable_chunks;
}

-- those of slices
abbrev pub given_of : {F H : Type 0} → Verifier F H (Bor (List ℕ)) → Given
given_of verifier = form_given_of (λ chunk. chunk.now) verifier
