-- Why a call of a writer that takes bytes into memory may be refused.
use Rattle.std.specs.Prelude.{ℕ, ◌+◌, ⊤, length}
use Rattle.paged_blob_parts.specs.Answers.{IsPastNumbers}
use Rattle.paged_blob_parts.specs.Flushes.{physical_size}
use Rattle.paged_blob_parts.specs.Writers.{WriterState}
use Rattle.paged_blob_parts.specs.declared.error.Error.{Error}
use Rattle.paged_blob_parts.specs.declared.error.Error.TheVariants.{NumberEnded, Memory}

-- memory is wanting, or a number of the list with so many bytes more would end
abbrev pub IsTakingCause : WriterState → ℕ → Error → Type 0
IsTakingCause w more NumberEnded = IsPastNumbers (physical_size w.page_size (w.tip.offset + length w.tip.bytes + more))
IsTakingCause w more Memory = ⊤
IsTakingCause w more error = ⊥
