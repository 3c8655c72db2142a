use Rattle.std.proofs.Common.{◌≡◌, ◌∙◌, [], length, map, ap, arith}
use Rattle.state_theory.specs.Canonical.{Setting, State}
use Rattle.auth_store_states.specs.Laws.Widths.{width_is_whole}
use Rattle.auth_store_parts.specs.Laws.Places.{length-activity_bits}
use Rattle.state_ops.specs.Operation.{meaning_of}
use Rattle.std.proofs.lemmas.List.{length-map}
use Rattle.auth_store_ledger.specs.History.{meanings}
use Rattle.auth_store_ledger.specs.Store.{encodings, grafting_height, setting_of_width}
use Rattle.auth_store_ledger.proofs.Kept.{counted, kept_of_all, kept_of_nothing, nothing_pruned}
use Rattle.auth_store_ledger.proofs.ledger.kept.kept_of_log.Goals as goal

pub new-kept-requires : goal.new-kept-requires
new-kept-requires g c =
    let whole = width_is_whole g.row.N c.requires.width in
    (omega arith, (grafting_height g.row.N, whole.0, whole.1))

pub grow_by-requires : goal.grow_by-requires
grow_by-requires g c =
    let key = g.K.FixedSize.SIZE in
    let value = g.V.FixedSize.SIZE in
    let setting : Setting = setting_of_width g.F.Family.merge_rule g.H.HashFunction.hash_of g.row.N in
    let stands = c.new-kept.ensures (grafting_height g.row.N) (width_is_whole g.row.N c.requires.width).0 in
    let empty = kept_of_nothing setting key value c.new-kept.result stands in
    let count = counted key value (λ e. e.items) c.in_ok-encodings.encodings.items
    (meanings g.K.Write.encoding g.V.Write.encoding c.args.operations.now) c.in_ok-encodings.ensures.encoded in
    let bits = length-activity_bits (meanings g.K.Write.encoding g.V.Write.encoding c.args.operations.now) in (
      omega arith,
      (
        omega (
          arith,
          empty.leaves,
          count,
          ap length c.deref.ensures.value,
          c.requires.few,
          length-map c.args.operations.now (meaning_of g.K.Write.encoding g.V.Write.encoding),
        ),
        (
          omega (arith, bits, count, ap length c.deref.ensures.value, ap length c.deref-2.ensures.value, ap length c.in_ok-bits.ensures),
          tt,
        ),
      ),
    )

pub returns-clause-whole : goal.returns-clause-whole
returns-clause-whole g c =
    let setting : Setting = setting_of_width g.F.Family.merge_rule g.H.HashFunction.hash_of g.row.N in
    let stands = c.new-kept.ensures (grafting_height g.row.N) (width_is_whole g.row.N c.requires.width).0 in
    c.grow_by.ensures.pruned ∙ nothing_pruned setting c.new-kept.result stands

pub returns-clause-kept : goal.returns-clause-kept
returns-clause-kept g c =
    let key = g.K.FixedSize.SIZE in
    let value = g.V.FixedSize.SIZE in
    let setting : Setting = setting_of_width g.F.Family.merge_rule g.H.HashFunction.hash_of g.row.N in
    let stands = c.new-kept.ensures (grafting_height g.row.N) (width_is_whole g.row.N c.requires.width).0 in
    let nothing : State = record { operations = []; bits = []; floor = 0 } in
    let encoded = c.deref.result.now in
    let bits = c.deref-2.result.now in
    let are : map (λ e. e.items) encoded ≡ encodings key value (meanings g.K.Write.encoding g.V.Write.encoding c.args.operations.now) =
    ap (map (λ e. e.items)) c.deref.ensures.value ∙ c.in_ok-encodings.ensures.encoded in
    kept_of_all setting key value
    (meanings g.K.Write.encoding g.V.Write.encoding c.args.operations.now) c.new-kept.result c.grow_by.new.current (λ e. e.items)
    encoded bits
    c.args.floor stands are (c.deref-2.ensures.value ∙ c.in_ok-bits.ensures) c.requires.last c.in_ok-grow_by.ensures.leaves
    c.grow_by.ensures.pruned (c.in_ok-grow_by.ensures.stands nothing stands)
