use Rattle.std.proofs.Common.{◌≡◌, refl, ℕ, ◌+◌, ◌-◌, ◌<◌, ◌^◌, ◌∙◌}
use Rattle.std.proofs.Common.{[], ◌∷◌, ◌++◌, List, flat_map, Option, map, option_map, length, ap, ap₂, sym, subst, arith}
use Rattle.std.proofs.lemmas.List.{length-map}
use Rattle.std.proofs.lemmas.Result.{err_from_is_err_and}
use Rattle.std.specs.Prelude.{OnErr}
use Rattle.std.specs.declared.alloc.Global.{Global}
use Rattle.std.specs.declared.vec.Vec.{Vec}
use Rattle.state_current.specs.Kept.{Kept}
use Rattle.state_theory.specs.Bits.{all_bits}
use Rattle.state_theory.specs.Canonical.{Setting}
use Rattle.state_ops.specs.Operation.{Operation, commit_floor, fixed_encoding, meaning_of}
use Rattle.auth_store_log.specs.Records.{Format, format_of, log_bytes}
use Rattle.auth_store_ledger.specs.Store.{AreWritten, LedgerState, encodings, setting_of_width, state_of_log}
use Rattle.auth_store_ledger.specs.Batch.{map_after}
use Rattle.auth_store_ledger.specs.History.{replayed}
use Rattle.auth_store_ledger.specs.Map.{Map}
use Rattle.auth_store_parts.specs.History.{IsState}
use Rattle.auth_store_parts.specs.Laws.Staged.{IsState-placed, batch_apart, in_two_steps}
use Rattle.auth_store_parts.specs.Places.{placed}
use Rattle.auth_store_parts.specs.Staged.{AreApart, updated, without_deleted}
use Rattle.auth_store_ledger.proofs.Appends.{found_in, now_bytes, now_few, now_ledger, now_paired, now_there}
use Rattle.auth_store_ledger.specs.Laws.Places.{has_end}
use Rattle.auth_store_ledger.proofs.Seen.{inside, seen_as}
use Rattle.auth_store_ledger.proofs.Stores.{commits_few}
use Rattle.auth_store_ledger.proofs.ledger.Ledger.take_changes.Goals as goal

pub found_of-requires : goal.found_of-requires
found_of-requires g c =
    let key_size : ℕ = g.K.FixedSize.SIZE in
    let value_size : ℕ = g.V.FixedSize.SIZE in
    let setting : Setting = setting_of_width g.F.Family.merge_rule g.H.HashFunction.hash_of g.row.N in
    let format : Format = format_of (g.K.Read.after tt) (g.V.Read.after tt) key_size value_size in
    let from = c.requires.changes in
    let here = inside setting format from.log c.self.inside.places c.self.inside.commits c.self.inside.current c.args.self.now c.self.view_is from.of in (
      omega arith,
      (
        omega (arith, here.keeps.current.leaves, has_end from.log here.keeps.whole),
        (
          omega (arith, c.leaves.ensures.leaves, c.as_u64-leaves.ensures),
          omega (arith, here.keeps.current.behind, here.keeps.current.stands.floor),
        ),
      ),
    )

pub grow_or_back-requires : goal.grow_or_back-requires
grow_or_back-requires g c =
    let key_size : ℕ = g.K.FixedSize.SIZE in
    let value_size : ℕ = g.V.FixedSize.SIZE in
    let setting : Setting = setting_of_width g.F.Family.merge_rule g.H.HashFunction.hash_of g.row.N in
    let format : Format = format_of (g.K.Read.after tt) (g.V.Read.after tt) key_size value_size in
    let from = c.requires.changes in
    let here = inside setting format from.log c.self.inside.places c.self.inside.commits c.self.inside.current c.args.self.now c.self.view_is from.of in
    let means = meaning_of g.K.Write.encoding g.V.Write.encoding in
    let noted : Option (List ℕ) = option_map g.V.Write.encoding c.args.metadata in
    let changes : List Operation = map means c.args.changes.items in
    let items : Vec ℕ Global → List ℕ = λ e. e.items in
    let all = c.in_ok-operations.field-0 in
    let said : List Operation = map means all.operations.items in
    let as_bytes : map items c.deref-4.result.now ≡ encodings key_size value_size said =
    cc (c.deref-4.ensures.value, c.in_ok-encodings.ensures.encoded, c.deref.ensures.value) in
    let before : Kept = c.self.inside.current in
    let last : ℕ = before.operations.leaves - 1 in
    let found = found_in c.self.inside.places c.self.inside.places last last changes noted (all_bits setting.width before.bits) before.floor
    said all.bits.items c.deref-5.result.now all.places.items c.deref-6.result.now all.floor c.in_ok-operations.ensures refl refl
    c.deref-5.ensures.value c.deref-6.ensures.value in
    let small : length from.log + length changes < 2 ^ 62 = omega (
      arith,
      here.keeps.current.leaves,
      here.keeps.few,
      length-map c.args.changes.items means,
      c.leaves.ensures.leaves,
      c.as_u64-leaves.ensures,
    ) in (
      omega arith,
      (
        c.in_ok-earlier.ensures.earlier.can,
        record {
          few = now_few setting format from.words noted from.log changes said items _ _ _ all.floor c.self.inside.places c.self.inside.commits before here
              from.are found as_bytes small;
          paired = now_paired setting format from.words noted from.log changes said items _ _ _ all.floor c.self.inside.places c.self.inside.commits before here
              from.are found as_bytes small;
          there = now_there setting format from.words noted from.log changes said items _ _ _ all.floor c.self.inside.places c.self.inside.commits before here
              from.are found as_bytes small;
        },
      ),
    )

pub follow_updates-requires : goal.follow_updates-requires
follow_updates-requires g c =
    let key_size : ℕ = g.K.FixedSize.SIZE in
    let value_size : ℕ = g.V.FixedSize.SIZE in
    let setting : Setting = setting_of_width g.F.Family.merge_rule g.H.HashFunction.hash_of g.row.N in
    let format : Format = format_of (g.K.Read.after tt) (g.V.Read.after tt) key_size value_size in
    let from = c.requires.changes in
    let here = inside setting format from.log c.self.inside.places c.self.inside.commits c.self.inside.current c.args.self.now c.self.view_is from.of in
    let means = meaning_of g.K.Write.encoding g.V.Write.encoding in
    let noted : Option (List ℕ) = option_map g.V.Write.encoding c.args.metadata in
    let changes : List Operation = map means c.args.changes.items in
    let items : Vec ℕ Global → List ℕ = λ e. e.items in
    let all = c.in_ok-operations.field-0 in
    let said : List Operation = map means all.operations.items in
    let as_bytes : map items c.deref-2.result.now ≡ encodings key_size value_size said =
    cc (c.deref-2.ensures.value, c.in_ok-encodings.ensures.encoded, c.deref.ensures.value) in
    let before : Kept = c.self.inside.current in
    let last : ℕ = before.operations.leaves - 1 in
    let found = found_in c.self.inside.places c.self.inside.places last last changes noted (all_bits setting.width before.bits) before.floor
    said all.bits.items all.bits.items all.places.items all.places.items all.floor c.in_ok-operations.ensures refl refl refl refl in
    let small : length from.log + length changes < 2 ^ 62 = omega (
      arith,
      here.keeps.current.leaves,
      here.keeps.few,
      length-map c.args.changes.items means,
      c.leaves.ensures.leaves,
      c.as_u64-leaves.ensures,
    ) in
    let few = now_few setting format from.words noted from.log changes said items _ _ _ all.floor c.self.inside.places c.self.inside.commits before here
    from.are found as_bytes small in
    omega (
      arith,
      few,
      ap length as_bytes,
      length-map c.deref-2.result.now items,
      length-map said (fixed_encoding key_size value_size),
      length-map all.operations.items means,
      ap length c.deref-3.ensures.value,
      c.leaves.ensures.leaves,
      c.as_u64-leaves.ensures,
    )

pub overflow_add-self : goal.overflow_add-self
overflow_add-self g c =
    let key_size : ℕ = g.K.FixedSize.SIZE in
    let value_size : ℕ = g.V.FixedSize.SIZE in
    let setting : Setting = setting_of_width g.F.Family.merge_rule g.H.HashFunction.hash_of g.row.N in
    let format : Format = format_of (g.K.Read.after tt) (g.V.Read.after tt) key_size value_size in
    let from = c.requires.changes in
    let here = inside setting format from.log c.self.inside.places c.self.inside.commits c.self.inside.current c.args.self.now c.self.view_is from.of in
    omega (arith, commits_few setting key_size value_size from.log _ _ here.keeps)

pub returns-clause-pruned : goal.returns-clause-pruned
returns-clause-pruned g c = c.grow_or_back.ensures.pruned ∙ ap (λ (s : LedgerState). s.kept.bits.pruned) c.self.view_is

pub returns-in_err-earlier-clause-err : goal.returns-in_err-earlier-clause-err
returns-in_err-earlier-clause-err g c =
    let p = err_from_is_err_and c.from_residual-in_err-earlier.result c.from_residual-in_err-earlier.ensures.1 in
    subst (λ r. OnErr r (seen_as c.follow_updates.new.self c.self.inside.commits c.self.inside.current ≡ c.args.self.now)) (sym p.1)
    (ap (λ (m : Map). seen_as m c.self.inside.commits c.self.inside.current) c.in_err-earlier.ensures.err ∙ c.self.view_is)

pub returns-in_err-grow_or_back-clause-err : goal.returns-in_err-grow_or_back-clause-err
returns-in_err-grow_or_back-clause-err g c =
    let p = err_from_is_err_and c.from_residual-in_err-grow_or_back.result c.from_residual-in_err-grow_or_back.ensures.1 in
    let places : c.grow_or_back.new.index ≡ c.self.inside.places =
    c.in_err-grow_or_back.ensures.back ∙ c.in_ok-earlier.ensures.earlier.back in
    subst (λ r. OnErr r (seen_as c.grow_or_back.new.index c.self.inside.commits c.grow_or_back.new.current ≡ c.args.self.now)) (sym p.1)
    (ap₂ (λ (m : Map) (k : Kept). seen_as m c.self.inside.commits k) places c.in_err-grow_or_back.ensures.unchanged ∙ c.self.view_is)

pub returns-clause-bytes : goal.returns-clause-bytes
returns-clause-bytes g c log words of are =
    let key_size : ℕ = g.K.FixedSize.SIZE in
    let value_size : ℕ = g.V.FixedSize.SIZE in
    let setting : Setting = setting_of_width g.F.Family.merge_rule g.H.HashFunction.hash_of g.row.N in
    let format : Format = format_of (g.K.Read.after tt) (g.V.Read.after tt) key_size value_size in
    let here = inside setting format log c.self.inside.places c.self.inside.commits c.self.inside.current c.args.self.now c.self.view_is of in
    let means = meaning_of g.K.Write.encoding g.V.Write.encoding in
    let noted : Option (List ℕ) = option_map g.V.Write.encoding c.args.metadata in
    let changes : List Operation = map means c.args.changes.items in
    let items : Vec ℕ Global → List ℕ = λ e. e.items in
    let all = c.in_ok-operations.field-0 in
    let said : List Operation = map means all.operations.items in
    let as_bytes : map items c.deref-4.result.now ≡ encodings key_size value_size said =
    cc (c.deref-4.ensures.value, c.in_ok-encodings.ensures.encoded, c.deref.ensures.value) in
    let before : Kept = c.self.inside.current in
    let last : ℕ = before.operations.leaves - 1 in
    let found = found_in c.self.inside.places c.self.inside.places last last changes noted (all_bits setting.width before.bits) before.floor
    said all.bits.items c.deref-5.result.now all.places.items c.deref-6.result.now all.floor c.in_ok-operations.ensures refl refl
    c.deref-5.ensures.value c.deref-6.ensures.value in
    let small : length log + length changes < 2 ^ 62 = omega (
      arith,
      here.keeps.current.leaves,
      here.keeps.few,
      length-map c.args.changes.items means,
      c.leaves.ensures.leaves,
      c.as_u64-leaves.ensures,
    ) in
    now_bytes setting format words noted log changes said items _ _ _ all.floor c.self.inside.places c.self.inside.commits before here
    are found as_bytes small
    ∙ ap (λ (b : List ℕ). log_bytes key_size value_size log ++ b)
    (ap (flat_map items) (c.deref-4.ensures.value ∙ sym c.deref-2.ensures.value) ∙ sym c.in_ok-bytes.ensures)

pub returns-clause-ok : goal.returns-clause-ok
returns-clause-ok g c log words of are =
    let key_size : ℕ = g.K.FixedSize.SIZE in
    let value_size : ℕ = g.V.FixedSize.SIZE in
    let setting : Setting = setting_of_width g.F.Family.merge_rule g.H.HashFunction.hash_of g.row.N in
    let format : Format = format_of (g.K.Read.after tt) (g.V.Read.after tt) key_size value_size in
    let here = inside setting format log c.self.inside.places c.self.inside.commits c.self.inside.current c.args.self.now c.self.view_is of in
    let means = meaning_of g.K.Write.encoding g.V.Write.encoding in
    let noted : Option (List ℕ) = option_map g.V.Write.encoding c.args.metadata in
    let changes : List Operation = map means c.args.changes.items in
    let items : Vec ℕ Global → List ℕ = λ e. e.items in
    let all = c.in_ok-operations.field-0 in
    let said : List Operation = map means all.operations.items in
    let as_bytes : map items c.deref-4.result.now ≡ encodings key_size value_size said =
    cc (c.deref-4.ensures.value, c.in_ok-encodings.ensures.encoded, c.deref.ensures.value) in
    let before : Kept = c.self.inside.current in
    let last : ℕ = before.operations.leaves - 1 in
    let found = found_in c.self.inside.places c.self.inside.places last last changes noted (all_bits setting.width before.bits) before.floor
    said all.bits.items c.deref-5.result.now all.places.items c.deref-6.result.now all.floor c.in_ok-operations.ensures refl refl
    c.deref-5.ensures.value c.deref-6.ensures.value in
    let small : length log + length changes < 2 ^ 62 = omega (
      arith,
      here.keeps.current.leaves,
      here.keeps.few,
      length-map c.args.changes.items means,
      c.leaves.ensures.leaves,
      c.as_u64-leaves.ensures,
    ) in
    let written : AreWritten format said = subst (λ l. AreWritten format (map means l)) c.deref.ensures.value c.in_ok-encodings.ensures.written in
    let old : Map = replayed [] log in
    let state : IsState c.self.inside.places = subst IsState (sym here.places) (IsState-placed 0 [] log tt) in
    let apart : AreApart said = subst AreApart (sym found.whole)
    (subst (λ (l : List Operation). AreApart (l ++ commit_floor noted all.floor ∷ [])) (sym are)
    (batch_apart old (map_after words old) noted all.floor)) in
    let first : c.grow_or_back.new.index ≡ updated c.as_u64-leaves.result c.self.inside.places said =
    c.in_ok-grow_or_back.ensures.kept
    ∙ (c.in_ok-earlier.ensures.ok
    ∙ ap (λ l. updated c.as_u64-leaves.result c.self.inside.places (map means l)) c.deref-3.ensures.value) in
    let index : c.follow_deletes.new.self ≡ placed before.operations.leaves c.self.inside.places said =
    c.follow_deletes.ensures
    ∙ (ap (λ l. without_deleted c.grow_or_back.new.index (map means l)) c.deref-7.ensures.value
    ∙ (ap (λ (p : Map). without_deleted p said) first
    ∙ (in_two_steps c.as_u64-leaves.result c.self.inside.places said state apart
    ∙ ap (λ (n : ℕ). placed n c.self.inside.places said) (c.as_u64-leaves.ensures ∙ c.leaves.ensures.leaves)))) in
    now_ledger setting format words noted log changes said items _ _ _ all.floor c.self.inside.places c.self.inside.commits before here
    are found as_bytes small
    c.grow_or_back.new.current c.follow_deletes.new.self c.in_ok-grow_or_back.ensures.leaves c.grow_or_back.ensures.pruned
    (c.in_ok-grow_or_back.ensures.stands (state_of_log key_size value_size log) here.keeps.current.stands) written index
