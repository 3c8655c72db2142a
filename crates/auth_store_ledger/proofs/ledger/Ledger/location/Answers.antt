use Rattle.std.proofs.Common.{◌≡◌, ℕ, List, Some, None, [], ◌∷◌, option_map, ◌∙◌, ap, sym, subst}
use Rattle.state_theory.specs.Canonical.{Setting}
use Rattle.auth_store_log.specs.Records.{Format, format_of}
use Rattle.auth_store_ledger.specs.History.{history_of}
use Rattle.auth_store_ledger.specs.Map.{Map, value_at}
use Rattle.auth_store_ledger.specs.Store.{HasValueAt, setting_of_width}
use Rattle.auth_store_parts.specs.Places.{places_of}
use Rattle.auth_store_parts.specs.Laws.Places.{place_found}
use Rattle.auth_store_ledger.specs.Laws.Places.{located, placed_entry, unlocated, unplaced}
use Rattle.auth_store_ledger.proofs.Seen.{inside}
use Rattle.auth_store_ledger.proofs.ledger.Ledger.location.Goals as goal

pub returns-in-Some : goal.returns-in-Some
returns-in-Some g c log of =
    let key_size : ℕ = g.K.FixedSize.SIZE in
    let value : ℕ = g.V.FixedSize.SIZE in
    let setting : Setting = setting_of_width g.F.Family.merge_rule g.H.HashFunction.hash_of g.row.N in
    let format : Format = format_of (g.K.Read.after tt) (g.V.Read.after tt) key_size value in
    let here = inside setting format log c.self.inside.places c.self.inside.commits c.self.inside.current c.args.self.now c.self.view_is of in
    let key : List ℕ = g.K.Write.encoding c.args.key.now in
    let found : value_at (places_of log) key ≡ Some (c.in-Some.location ∷ []) =
    ap (λ (p : Map). value_at p key) (sym here.places) ∙ (sym c.get.ensures ∙ ap (option_map (λ n. n ∷ [])) c.in-Some.is) in
    let active = placed_entry key log c.in-Some.location here.keeps.states here.keeps.whole found in
    subst (λ (n : ℕ). HasValueAt key (history_of log) n) (place_found key log c.in-Some.location found)
    (located key log _ here.keeps.states here.keeps.whole active)

pub returns-in-None : goal.returns-in-None
returns-in-None g c log of =
    let key_size : ℕ = g.K.FixedSize.SIZE in
    let value : ℕ = g.V.FixedSize.SIZE in
    let setting : Setting = setting_of_width g.F.Family.merge_rule g.H.HashFunction.hash_of g.row.N in
    let format : Format = format_of (g.K.Read.after tt) (g.V.Read.after tt) key_size value in
    let here = inside setting format log c.self.inside.places c.self.inside.commits c.self.inside.current c.args.self.now c.self.view_is of in
    let key : List ℕ = g.K.Write.encoding c.args.key.now in
    let missing : value_at (places_of log) key ≡ None =
    ap (λ (p : Map). value_at p key) (sym here.places) ∙ (sym c.get.ensures ∙ ap (option_map (λ n. n ∷ [])) c.in-None.is) in
    unlocated key log here.keeps.states here.keeps.whole (unplaced key log missing)
