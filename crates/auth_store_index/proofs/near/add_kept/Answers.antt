use Rattle.std.proofs.Common.{◌≡◌, refl, sym, subst, Some, [], ◌∷◌}
use Rattle.auth_store_parts.specs.Map.{state_of, value_at}
use Rattle.auth_store_parts.specs.Laws.Entries.{state_of-insert_copies}
use Rattle.auth_store_index.specs.declared.values.Source.TheVariants.{Logged}
use Rattle.auth_store_index.specs.Sources.{source_value, value_there, AreOwn}
use Rattle.auth_store_index.specs.Laws.Sourced.{own_insert}
use Rattle.auth_store_index.specs.Laws.NearCode.{kept_some}
use Rattle.auth_store_index.proofs.near.add_kept.Goals as goal

pub returns-clause-near : goal.returns-clause-near
returns-clause-near g c log old at =
    let key = g.K.Write.encoding in
    let source = source_value g.V.Write.encoding log in
    kept_some old (state_of key (value_there log) c.args.gone.now.entries) (state_of key source c.args.near.now.entries)
    (state_of key source c.insert.new.self.entries) (key c.args.key.now) (value_there log c.args.place)
    (c.if-is_there.ensures (value_there log)) (c.if-is_there-2.ensures source) at
    (state_of-insert_copies key source g.K.Ord.cmp g.met.K.FixedKey.in_order c.args.near.now.entries _
    c.args.key.now c.in_ok-key.key (Logged c.args.place) (Logged c.args.place)
    (g.met.K.Faithful.copied c.args.key.now c.in_ok-key.key c.in_ok-key.ensures.cases)
    refl c.in_ok-insert.ensures.entries)

pub returns-clause-own : goal.returns-clause-own
returns-clause-own g c places all own =
    let key = g.K.Write.encoding in
    subst (AreOwn key places) (sym c.in_ok-insert.ensures.entries)
    (own_insert key places g.K.Ord.cmp g.met.K.FixedKey.in_order c.args.near.now.entries c.in_ok-key.key (Logged c.args.place) all
    (subst (λ q. value_at places q ≡ Some (c.args.place ∷ []))
    (sym (g.met.K.Faithful.copied c.args.key.now c.in_ok-key.key c.in_ok-key.ensures.cases)) own))
