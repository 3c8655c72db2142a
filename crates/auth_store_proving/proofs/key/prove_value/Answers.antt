use Rattle.std.proofs.Common.{rules, ◌≡◌, ◌∙◌, ℕ, List, [], ◌∷◌, Option, None, Some, option_map, ap, sym, subst, arith}
use Rattle.std.specs.Prelude.{IfSome, slice_get}
use Rattle.state_ops.specs.Operation.{Operation}
use Rattle.state_ops.specs.Reading.{IsField}
use Rattle.state_theory.specs.Canonical.{Setting}
use Rattle.state_theory.specs.Honest.{key_value_proof}
use Rattle.auth_store_parts.specs.Places.{places_of}
use Rattle.auth_store_parts.specs.Laws.Places.{place_found}
use Rattle.auth_store_ledger.specs.Map.{Map, value_at}
use Rattle.auth_store_ledger.specs.History.{active_location, active_update, update_fields}
use Rattle.auth_store_ledger.specs.Store.{IsPlaced, setting_of_width, state_of_log}
use Rattle.auth_store_proving.proofs.Absences.{update_within}
use Rattle.auth_store_ledger.specs.Laws.Places.{active_behind, placed_entry, some_fields, unplaced}
use Rattle.auth_store_proving.proofs.Proofs.{shown}
use Rattle.auth_store_proving.proofs.key.prove_value.Goals as goal

pub returns-in_default-clause-found : goal.returns-in_default-clause-found
returns-in_default-clause-found g c =
    let key : List ℕ = g.K.Write.encoding c.args.key.now in
    let log : List Operation = g.L.LoggedValues.log c.args.log.now in
    let gone : c.get.result ≡ None = search rules in
    let missing : value_at (places_of log) key ≡ None =
    ap (λ (p : Map). value_at p key) (sym c.requires.placed.stand) ∙ (sym c.get.ensures ∙ ap (option_map (λ (n : ℕ). n ∷ [])) gone) in
    record {
      next = tt;
      is = ap (option_map (shown g.F.PendingOf.pending_encoding (setting_of_width g.F.Family.merge_rule g.H.HashFunction.hash_of g.row.N)
          g.K.FixedSize.SIZE g.V.FixedSize.SIZE key log)) (sym (unplaced key log missing));
    }

pub returns-in_default-clause-leads : goal.returns-in_default-clause-leads
returns-in_default-clause-leads g c = g.L.LoggedValues.none_leads c.args.log.now

pub update_at-requires : goal.update_at-requires
update_at-requires g c =
    let key : List ℕ = g.K.Write.encoding c.args.key.now in
    let log : List Operation = g.L.LoggedValues.log c.args.log.now in
    let found : value_at (places_of log) key ≡ Some (c.in-Some.location ∷ []) =
    ap (λ (p : Map). value_at p key) (sym c.requires.placed.stand) ∙ (sym c.get.ensures ∙ ap (option_map (λ (n : ℕ). n ∷ [])) c.in-Some.is) in
    let place = place_found key log c.in-Some.location found in
    record {
      may = c.requires.may;
      stands = λ none. some_fields (update_fields (slice_get log c.in-Some.location)) _ _
          (ap (λ (n : ℕ). update_fields (slice_get log n)) (sym place)
          ∙ placed_entry key log c.in-Some.location c.requires.placed.states c.requires.placed.whole found) none;
    }

pub prove-unreachable-requires : goal.prove-unreachable-requires
prove-unreachable-requires g c =
    let key : List ℕ = g.K.Write.encoding c.args.key.now in
    let log : List Operation = g.L.LoggedValues.log c.args.log.now in
    let found : value_at (places_of log) key ≡ Some (c.in-Some.location ∷ []) =
    ap (λ (p : Map). value_at p key) (sym c.requires.placed.stand) ∙ (sym c.get.ensures ∙ ap (option_map (λ (n : ℕ). n ∷ [])) c.in-Some.is) in
    let place = place_found key log c.in-Some.location found in
    let behind = active_behind key log _ c.requires.placed.states c.requires.placed.whole
    (placed_entry key log c.in-Some.location c.requires.placed.states c.requires.placed.whole found) in
    omega (arith, c.requires.placed.current.behind, behind, place, c.kept_from.ensures, c.as_u64-kept_from.ensures)

pub proof_at-requires : goal.proof_at-requires
proof_at-requires g c =
    let log : List Operation = g.L.LoggedValues.log c.args.log.now in
    let within = update_within log c.in-Some.location _ c.in_ok-value.ensures.update in
    (omega arith, (omega (arith, c.kept_from.ensures, c.as_u64-kept_from.ensures), omega (arith, c.requires.placed.current.leaves, within)))

pub returns-clause-found : goal.returns-clause-found
returns-clause-found g c =
    let key : List ℕ = g.K.Write.encoding c.args.key.now in
    let log : List Operation = g.L.LoggedValues.log c.args.log.now in
    let value : List ℕ = g.V.Write.encoding c.in_ok-value.field-0.value in
    let next : List ℕ = g.K.Write.encoding c.in_ok-value.field-0.next_key in
    let setting : Setting = setting_of_width g.F.Family.merge_rule g.H.HashFunction.hash_of g.row.N in
    let pending = g.F.PendingOf.pending_encoding in
    let found : value_at (places_of log) key ≡ Some (c.in-Some.location ∷ []) =
    ap (λ (p : Map). value_at p key) (sym c.requires.placed.stand) ∙ (sym c.get.ensures ∙ ap (option_map (λ (n : ℕ). n ∷ [])) c.in-Some.is) in
    let place = place_found key log c.in-Some.location found in
    let named : active_update key log ≡ Some (value, next) =
    ap (λ (n : ℕ). update_fields (slice_get log n)) place ∙ c.in_ok-value.ensures.update in
    let proved : c.in_ok-bytes.bytes.items ≡ key_value_proof pending setting
    (state_of_log g.K.FixedSize.SIZE g.V.FixedSize.SIZE log) (active_location key log) next =
    c.in_ok-bytes.ensures.bytes g.K.FixedSize.SIZE g.V.FixedSize.SIZE log c.requires.placed.current
    ∙ ap (λ (n : ℕ). key_value_proof pending setting (state_of_log g.K.FixedSize.SIZE g.V.FixedSize.SIZE log) n next) (sym place) in
    record {
      next = subst (λ (f : Option (List ℕ × List ℕ)). IfSome f (λ u. IsField (g.K.Read.after tt) g.K.FixedSize.SIZE u.1))
          (sym named) c.in_ok-bytes.ensures.next;
      is = ap (λ (b : List ℕ). Some (value, b)) proved
          ∙ ap (option_map (shown pending setting g.K.FixedSize.SIZE g.V.FixedSize.SIZE key log)) (sym named);
    }

pub returns-clause-readable : goal.returns-clause-readable
returns-clause-readable g c =
    g.L.LoggedValues.stays_readable c.args.log.now c.update_at.new.log c.in_ok-value.ensures.leads c.requires.may

pub returns-clause-placed : goal.returns-clause-placed
returns-clause-placed g c =
    let setting : Setting = setting_of_width g.F.Family.merge_rule g.H.HashFunction.hash_of g.row.N in
    subst (λ (l : List Operation). IsPlaced setting g.K.FixedSize.SIZE g.V.FixedSize.SIZE l c.args.places.now c.args.current.now)
    (sym c.update_at.ensures.same) c.requires.placed
