use Rattle.std.proofs.Common.{◌≡◌, Bool, true, false, [], ◌∷◌, None, option_map, refl, ap, sym, subst, ◌∙◌}
use Rattle.std.specs.Prelude.{IsSome}
use Rattle.auth_store_parts.specs.Map.{state_of, with_entry, without_key, value_at}
use Rattle.auth_store_parts.specs.Staged.{put_back}
use Rattle.auth_store_parts.specs.Laws.Entries.{state_of-insert_entry, state_of-remove_entry, value_at-state_of}
use Rattle.auth_store_parts.proofs.history.places.Places.put_back.Goals as goal

pub unreachable-requires : goal.unreachable-requires
unreachable-requires g c =
    let key = g.K.Write.encoding in
    let k = key c.args.key in
    let none : value_at c.args.self.now k ≡ None =
    sym (ap (λ p. value_at p k) c.self.view_is)
    ∙ (sym (value_at-state_of key (λ n. n ∷ []) g.K.Ord.cmp g.met.K.FixedKey.in_order c.self.inside.locations.entries
    c.args.key)
    ∙ ap (option_map (λ n. n ∷ [])) c.in_default.ensures.absent) in
    let some : IsSome (value_at c.args.self.now k) = c.requires (subst IsSome (sym c.in-Some.is) refl) in
    let wrong : ◌≡◌ {A = Bool} false true = subst IsSome none some in
    cc

pub returns-in-Ok : goal.returns-in-Ok
returns-in-Ok g c =
    let key = g.K.Write.encoding in
    let k = key c.args.key in
    ap (state_of key (λ n. n ∷ [])) c.in-Ok.ensures.entries
    ∙ (state_of-insert_entry key (λ n. n ∷ []) g.K.Ord.cmp g.met.K.FixedKey.in_order c.self.inside.locations.entries
    c.args.key c.in-Some.location
    ∙ (ap (λ p. with_entry p k (c.in-Some.location ∷ [])) c.self.view_is
    ∙ ap (λ had. put_back c.args.self.now (k, option_map (λ location. location ∷ []) had)) (sym c.in-Some.is)))

pub returns-in-None : goal.returns-in-None
returns-in-None g c =
    let key = g.K.Write.encoding in
    let k = key c.args.key in
    ap (state_of key (λ n. n ∷ [])) c.remove.ensures.entries
    ∙ (state_of-remove_entry key (λ n. n ∷ []) g.K.Ord.cmp g.met.K.FixedKey.in_order c.self.inside.locations.entries
    c.args.key
    ∙ (ap (λ p. without_key p k) c.self.view_is
    ∙ ap (λ had. put_back c.args.self.now (k, option_map (λ location. location ∷ []) had)) (sym c.in-None.is)))
