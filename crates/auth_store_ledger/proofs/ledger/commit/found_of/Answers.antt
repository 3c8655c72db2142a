use Rattle.std.proofs.Common.{◌≡◌, ℕ, ◌+◌, ◌-◌, ◌++◌, ◌∷◌, [], Bool, List, true, map, drop, option_map, sym, ◌∙◌, ap, ap₂}
use Rattle.std.proofs.lemmas.List.{map-append}
use Rattle.auth_store_index.specs.Growth.{cleared, first_set, taken}
use Rattle.auth_store_index.specs.Touched.{is_no_delete}
use Rattle.state_theory.specs.Bits.{all_bits}
use Rattle.state_ops.specs.Operation.{Operation, commit_floor, meaning_of}
use Rattle.auth_store_ledger.proofs.ledger.commit.found_of.Goals as goal

pub returns : goal.returns
returns g c =
    let means = meaning_of g.K.Write.encoding g.V.Write.encoding in
    let floor : ℕ = c.args.current.now.floor in
    let all : List Bool = all_bits g.row.N c.args.current.now.bits in
    let changes : List Operation = map means c.args.changes.items in
    let last : c.as_u64.result - 1 ≡ c.args.current.now.operations.leaves - 1 =
    ap (λ (n : ℕ). n - 1) (c.as_u64.ensures ∙ c.leaves.ensures.leaves) in
    let places : c.in_ok-places.places.items ≡ c.in_ok-taken.taken.items = c.in_ok-places.ensures ∙ c.deref-5.ensures.value in
    record {
      set = c.in_ok-bits.ensures ∙ ap (λ l. map is_no_delete (map means l) ++ true ∷ []) c.deref.ensures.value;
      taken_out = places ∙ (c.in_ok-taken.ensures
          ∙ (ap (λ l. taken c.args.index.now (c.as_u64.result - 1) (map means l) ++ (c.as_u64.result - 1) ∷ []) c.deref-2.ensures.value
          ∙ ap (λ (n : ℕ). taken c.args.index.now n changes ++ n ∷ []) last));
      first = c.in_ok-floor.ensures ∙ ap₂ (λ (b : List Bool) (p : List ℕ). floor + first_set (drop floor (cleared (all ++ b) p)))
          c.deref-3.ensures.value (c.deref-4.ensures.value ∙ sym places);
      whole = ap (map means) c.in_ok-push.ensures.items ∙ (map-append means c.args.changes.items _
          ∙ ap (λ (n : ℕ). changes ++ commit_floor (option_map g.V.Write.encoding c.args.metadata) n ∷ []) c.new.ensures);
    }
