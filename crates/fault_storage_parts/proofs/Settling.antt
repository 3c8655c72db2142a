-- The first mutation of a log.
use Rattle.std.proofs.Common.{◌≡◌, ◌<◌, ◌∷◌, [], ℕ, List, length, drop, get_or, drop-cons, ap, sym, refl, ◌∙◌}
use Rattle.rand_core.specs.Stream.{Stream}
use Rattle.fault_storage_parts.specs.declared.file.Mutation as code
use Rattle.fault_storage_parts.specs.Files.{applied, drawn_choice, settled}
use Rattle.fault_storage_parts.specs.FilesCode.{mutation_of, log_of}

pub settled-first : (base : List ℕ) (log : List code.Mutation) (here : code.Mutation) (words : Stream) → 0 < length log → here ≡ get_or log 0 here
    → settled (record { base = base; log = log_of log }) words
    ≡ (
      record { base = applied (drawn_choice (mutation_of here) words).0 (mutation_of here) base; log = log_of (drop 1 log) },
      (drawn_choice (mutation_of here) words).1,
    )
unfolding settled
settled-first base log here words some is =
    let first : log ≡ here ∷ drop 1 log = drop-cons log 0 here some ∙ ap (λ m. m ∷ drop 1 log) (sym is) in
    ap (λ l. settled (record { base = base; log = log_of l }) words) first

pub settled-none : (base : List ℕ) (words : Stream) → settled (record { base = base; log = [] }) words ≡ (record { base = base; log = [] }, words)
unfolding settled
settled-none base words = refl
