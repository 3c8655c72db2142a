use Rattle.std.proofs.Common.{◌≡◌, [], List, ℕ, refl, subst}
use Rattle.std.specs.Prelude.{MatchOption}
use Rattle.auth_store_parts.specs.Map.{state_of, next_key}
use Rattle.auth_store_parts.specs.Laws.Entries.{bytes_eq-cmp}
use Rattle.auth_store_index.proofs.fields.is_next.Goals as goal

pub returns : goal.returns
returns g c value = bytes_eq-cmp g.K.Write.encoding g.K.Ord.cmp g.met.K.FixedKey.in_order c.unwrap-least.result.now c.args.next.now _ _
    c.cmp.result c.is_eq.result
    (subst (λ o. MatchOption o (c.args.state.now.entries ≡ []) (λ next. (value : g.row.X.Denot → List ℕ)
    → g.K.Write.encoding next.now ≡ next_key (state_of g.K.Write.encoding value c.args.state.now.entries) (g.K.Write.encoding c.args.key.now)))
    c.unwrap-least.ensures c.next_key.ensures value) refl c.cmp.ensures c.is_eq.ensures
