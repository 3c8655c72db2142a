use Rattle.std.proofs.Common.{◌≡◌, ℕ, set, get_or, cond, List, ap, sym, subst, ◌∙◌}
use Rattle.rand_core.specs.Stream.{Stream}
use Rattle.fault_storage.specs.declared.stored.StoredFile.{StoredFile}
use Rattle.fault_storage_parts.specs.Files.{File, settled}
use Rattle.fault_storage.specs.Stores.{IsPlace, has_number, file_with, changed, settled_in}
use Rattle.fault_storage.proofs.Places.{written-at}
use Rattle.fault_storage.proofs.memory.files.settle_in.Goals as goal

-- the file at the place, settled
settling : (number : ℕ) (shown files next : List StoredFile) (place : ℕ) (stored : StoredFile) (file : File) (words after : Stream) → shown ≡ files
    → IsPlace (has_number number) shown place → stored ≡ get_or files place stored
    → ◌≡◌ {A = File × Stream} (file, after) (settled stored.file words)
    → ◌≡◌ {A = List StoredFile × Stream} (set files place (record stored { file = file }), after) (settled_in number files words)
settling number shown files next place stored file words after same at is drawn =
    let there : IsPlace (has_number number) files place = subst (λ (l : List StoredFile). IsPlace (has_number number) l place) same at in
    let found : file_with (has_number number) files ≡ stored.file = there.is stored ∙ ap (λ s. s.file) (sym is) in
    ap (λ l. (l, after)) (written-at (has_number number) shown files place stored (λ f. (settled f words).0) file same at is (ap (λ d. d.0) drawn))
    ∙ ap (λ w. (changed (has_number number) (λ f. (settled f words).0) files, w)) (ap (λ d. d.1) drawn ∙ ap (λ f. (settled f words).1) (sym found))
    ∙ sym (ap (λ b. cond b (changed (has_number number) (λ f. (settled f words).0) files, (settled (file_with (has_number number) files) words).1)
    (files, words)) there.some)

pub returns-in-Some : goal.returns-in-Some
returns-in-Some g c =
    settling c.args.number c.deref.result.now c.args.files.now.items c.args.files.now.items c.in-Some.place c.index_mut.result.now c.settle_next.new.self
    (g.R.Rng.stream c.args.rng.now)
    (g.R.Rng.stream c.settle_next.new.rng) c.deref.ensures.value c.in-Some.ensures c.index_mut.ensures.value c.settle_next.ensures
