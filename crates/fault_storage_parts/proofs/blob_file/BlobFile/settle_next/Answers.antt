use Rattle.std.proofs.Common.{◌≡◌, ◌≤◌, ◌<◌, ◌+◌, ℕ, [], List, length, drop, get_or, ap, sym, subst, ◌∙◌, arith, rules}
use Rattle.std.proofs.lemmas.List.{get_or-drop, length-drop, nil_from_length}
use Rattle.std.specs.Vec.{vec_capacity}
use Rattle.rand_core.specs.Stream.{Stream}
use Rattle.fault_storage_parts.specs.declared.file.Mutation as code
use Rattle.fault_storage_parts.specs.Files.{File, HasRoomFor, chosen_bytes, settled, applied, drawn_choice}
use Rattle.fault_storage_parts.specs.FilesCode.{mutation_of, log_of}
use Rattle.fault_storage_parts.proofs.Rooms.{room-grows}
use Rattle.fault_storage_parts.proofs.Settling.{settled-first, settled-none}
use Rattle.fault_storage_parts.proofs.blob_file.BlobFile.settle_next.Goals as goal

-- room for all of a log is room for what is left of it
rest : (log left : List code.Mutation) (size more choice larger : ℕ) → left ≡ drop 1 log → size ≤ more → choice ≤ larger
    → ((k : ℕ) (d : code.Mutation) → k < length log
    → HasRoomFor size (mutation_of (get_or log k d)) × (chosen_bytes (mutation_of (get_or log k d)) ≤ choice))
    → (k : ℕ) (d : code.Mutation) → k < length left
    → HasRoomFor more (mutation_of (get_or left k d)) × (chosen_bytes (mutation_of (get_or left k d)) ≤ larger)
rest log left size more choice larger is grows widens room k d lt =
    let there : get_or left k d ≡ get_or log (1 + k) d = ap (λ l. get_or l k d) is ∙ get_or-drop 1 log k d in
    let at = room (1 + k) d (omega (arith, ap length is, length-drop 1 log, lt)) in
    subst (λ (m : code.Mutation). HasRoomFor more (mutation_of m) × (chosen_bytes (mutation_of m) ≤ larger)) (sym there)
    (room-grows size more (mutation_of (get_or log (1 + k) d)) grows at.0, omega (arith, at.1, widens))

pub returns-then-is_empty : goal.returns-then-is_empty
returns-then-is_empty g c =
    let none : c.self.inside.log.items ≡ [] = nil_from_length c.self.inside.log.items (search rules) in
    let view : c.args.self.now ≡ record { base = c.self.inside.base.items; log = [] } = sym c.self.view_is
    ∙ ap (λ l. record { base = c.self.inside.base.items; log = log_of l }) none in
    ap (λ f. (f, g.R.Rng.stream c.args.rng.now)) view ∙ sym (settled-none c.self.inside.base.items (g.R.Rng.stream c.args.rng.now))
    ∙ sym (ap (λ f. settled f (g.R.Rng.stream c.args.rng.now)) view)

pub invariant_of-self : goal.invariant_of-self
invariant_of-self g c =
    rest c.self.inside.log.items c.let_first_go.new.log.items (vec_capacity c.self.inside.base) (vec_capacity c.apply_drawn.new.bytes)
    (vec_capacity c.self.inside.choice)
    (vec_capacity c.apply_drawn.new.choice) c.let_first_go.ensures c.apply_drawn.ensures.capacity c.apply_drawn.ensures.choice_capacity c.self.invariant

settling : (base next : List ℕ) (log left : List code.Mutation) (here : code.Mutation) (words after : Stream) (file : File)
    → record { base = base; log = log_of log } ≡ file → 0 < length log → here ≡ get_or log 0 here
    → next ≡ applied (drawn_choice (mutation_of here) words).0 (mutation_of here) base
    → after ≡ (drawn_choice (mutation_of here) words).1 → left ≡ drop 1 log
    → ◌≡◌ {A = File × Stream} (record { base = next; log = log_of left }, after) (settled file words)
settling base next log left here words after file view some is applies draws leaves =
    ap (λ b. (record { base = b; log = log_of left }, after)) applies
    ∙ ap (λ w. (record { base = applied (drawn_choice (mutation_of here) words).0 (mutation_of here) base; log = log_of left }, w)) draws
    ∙ ap (λ l. (
      record { base = applied (drawn_choice (mutation_of here) words).0 (mutation_of here) base; log = log_of l },
      (drawn_choice (mutation_of here) words).1,
    )) leaves
    ∙ sym (settled-first base log here words some is) ∙ ap (λ f. settled f words) view

pub returns : goal.returns
returns g c =
    settling c.self.inside.base.items c.apply_drawn.new.bytes.items c.self.inside.log.items c.let_first_go.new.log.items c.index.result.now
    (g.R.Rng.stream c.args.rng.now)
    (g.R.Rng.stream c.apply_drawn.new.rng) c.args.self.now c.self.view_is (search rules)
    (search rules) c.apply_drawn.ensures.applied c.apply_drawn.ensures.words c.let_first_go.ensures
