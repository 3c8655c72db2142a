use Rattle.std.proofs.Common.{◌≡◌, ◌∙◌, ◌+◌, ◌%◌, ◌++◌, List, [], ℕ, Bool, ap, sym}
use Rattle.rand_core.specs.Stream.{Stream, next_u64}
use Rattle.fault_storage_parts.specs.declared.draws.PartialWriteMode.{PartialWriteMode}
use Rattle.fault_storage_parts.specs.declared.draws.PartialWriteMode.TheVariants.{Prefix, Subset}
use Rattle.fault_storage_parts.specs.Draws.{Rate, first_kept, samples, kept_bytes}
use Rattle.fault_storage_parts.specs.DrawsCode.{rate_of, mode_of}
use Rattle.fault_storage_parts.proofs.draws.note_kept_bytes.Goals as goal

by_prefix : (mode : PartialWriteMode) (rate : Rate) (count word kept : ℕ) (words left : Stream) (items none : List Bool) → mode ≡ Prefix → none ≡ []
    → ◌≡◌ {A = ℕ × Stream} (word, left) (next_u64 words) → kept ≡ word % (count + 1) → items ≡ none ++ first_kept count kept
    → ◌≡◌ {A = List Bool × Stream} (items, left) (kept_bytes (mode_of mode) rate count words)
unfolding kept_bytes
by_prefix mode rate count word kept words left items none is empty drawn chosen noted =
    let same : items ≡ first_kept count (word % (count + 1)) = noted ∙ ap (λ l. l ++ first_kept count kept) empty ∙ ap (first_kept count) chosen in
    ap (λ l. (l, left)) same ∙ ap (λ d. (first_kept count (d.0 % (count + 1)), d.1)) drawn ∙ sym (ap (λ m. kept_bytes (mode_of m) rate count words) is)

by_samples : (mode : PartialWriteMode) (rate : Rate) (count : ℕ) (words : Stream) (drawn : List Bool × Stream) → mode ≡ Subset
    → drawn ≡ samples rate count words → drawn ≡ kept_bytes (mode_of mode) rate count words
unfolding kept_bytes
by_samples mode rate count words drawn is sampled = sampled ∙ sym (ap (λ m. kept_bytes (mode_of m) rate count words) is)

pub returns-in-Prefix-clause-drawn : goal.returns-in-Prefix-clause-drawn
returns-in-Prefix-clause-drawn g c =
    by_prefix c.args.mode (rate_of c.args.retention) c.args.count c.next_u64.result (c.from.result % (c.args.count + 1)) (g.R.Rng.stream c.args.rng.now)
    (g.R.Rng.stream c.next_u64.new.self) c.note_first.new.choice.items c.args.choice.now.items c.in-Prefix.is c.requires.none c.next_u64.ensures
    (ap (λ word. word % (c.args.count + 1)) c.from.ensures) c.note_first.ensures.items

pub returns-in-Subset-clause-drawn : goal.returns-in-Subset-clause-drawn
returns-in-Subset-clause-drawn g c =
    by_samples c.args.mode (rate_of c.args.retention) c.args.count (g.R.Rng.stream c.args.rng.now)
    (c.note_samples.new.choice.items, g.R.Rng.stream c.note_samples.new.rng) c.in-Subset.is c.note_samples.ensures.drawn
