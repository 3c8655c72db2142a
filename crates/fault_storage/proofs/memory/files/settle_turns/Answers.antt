use Rattle.std.proofs.Common.{◌≡◌, ◌<◌, ◌≤◌, ◌+◌, ℕ, List, length, drop, get_or, drop-cons, add-one, ap, sym, ◌∙◌}
use Rattle.std.proofs.lemmas.List.{drop_all}
use Rattle.rand_core.specs.Stream.{Stream}
use Rattle.fault_storage.specs.declared.stored.StoredFile.{StoredFile}
use Rattle.fault_storage.specs.Stores.{settled_in, crashed_files}
use Rattle.fault_storage.proofs.memory.files.settle_turns.Goals as goal

-- one more turn
one_more : (order : List ℕ) (i : ℕ) (files next : List StoredFile) (words after : Stream) → i < length order
    → ◌≡◌ {A = List StoredFile × Stream} (next, after) (settled_in (get_or order i 0) files words)
    → crashed_files next (drop (i + 1) order) after ≡ crashed_files files (drop i order) words
unfolding crashed_files
one_more order i files next words after lt settles =
    ap (λ d. crashed_files d.0 (drop (i + 1) order) d.1) settles ∙ rw (add-one) (sym (ap (λ l. crashed_files files l words) (drop-cons order i 0 lt)))

all_settled : (order : List ℕ) (i : ℕ) (files : List StoredFile) (words : Stream) → length order ≤ i
    → ◌≡◌ {A = List StoredFile × Stream} (files, words) (crashed_files files (drop i order) words)
unfolding crashed_files
all_settled order i files words le = sym (ap (λ l. crashed_files files l words) (drop_all i order le))

pub loop-number-preserved : goal.loop-number-preserved
loop-number-preserved g c =
    one_more c.args.order.now c.loop-number.number-index c.loop-number.files.items c.settle_in.new.files.items (g.R.Rng.stream c.loop-number.rng)
    (g.R.Rng.stream c.settle_in.new.rng)
    c.loop-number-test.true c.settle_in.ensures ∙ c.loop-number.invariant

pub returns : goal.returns
returns g c =
    all_settled c.args.order.now c.loop-number.number-index c.loop-number.files.items (g.R.Rng.stream c.loop-number.rng) c.loop-number-test.false
    ∙ c.loop-number.invariant
