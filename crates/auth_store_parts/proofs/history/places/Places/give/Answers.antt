use Rattle.std.proofs.Common.{◌≡◌, ℕ, List, [], ◌∷◌, ◌++◌, Option, None, option_map, refl, ap, sym, subst, ◌∙◌}
use Rattle.std.proofs.lemmas.List.{map-append}
use Rattle.auth_store_parts.specs.Map.{state_of, with_entry, value_at}
use Rattle.auth_store_parts.specs.History.{IsState}
use Rattle.auth_store_parts.specs.Staged.{told, AreEarlier}
use Rattle.auth_store_parts.specs.Laws.Entries.{state_of-insert_copies, value_at-state_of}
use Rattle.auth_store_parts.specs.Laws.Neighbours.{state_sorted}
use Rattle.auth_store_parts.specs.Laws.Staged.{earlier_given, earlier_kept}
use Rattle.auth_store_parts.proofs.history.places.Places.give.Goals as goal

-- what is told of one more
told-last : {K : Type 0} (key : K → List ℕ) (earlier items : List (K × Option ℕ)) (l : K) (had : Option ℕ)
    (named : List ℕ) → items ≡ earlier ++ (l, had) ∷ [] → key l ≡ named
    → told key items ≡ told key earlier ++ (named, option_map (λ location. location ∷ []) had) ∷ []
told-last key earlier items l had named is same =
    ap (told key) is
    ∙ (map-append (λ one. (key one.0, option_map (λ location. location ∷ []) one.1)) earlier ((l, had) ∷ [])
    ∙ ap (λ n. told key earlier ++ (n, option_map (λ location. location ∷ []) had) ∷ []) same)

pub returns-clause-ok : goal.returns-clause-ok
returns-clause-ok g c =
    let key = g.K.Write.encoding in
    state_of-insert_copies key (λ n. n ∷ []) g.K.Ord.cmp g.met.K.FixedKey.in_order c.self.inside.locations.entries
    c.insert.new.self.entries c.args.key.now c.in_ok-own.own c.args.location c.args.location
    (g.met.K.Faithful.copied c.args.key.now c.in_ok-own.own c.in_ok-own.ensures.cases) refl
    c.in_ok-insert.ensures.entries
    ∙ ap (λ places. with_entry places (key c.args.key.now) (c.args.location ∷ [])) c.self.view_is

pub returns-clause-earlier : goal.returns-clause-earlier
returns-clause-earlier g c = λ first are.
    let key = g.K.Write.encoding in
    let es = c.self.inside.locations.entries in
    let k = key c.args.key.now in
    let places = c.args.self.now in
    let is : IsState places = subst IsState c.self.view_is
    (state_sorted key (λ n. n ∷ []) g.K.Ord.cmp g.met.K.FixedKey.in_order es c.insert.ensures.was_ordered) in
    let had : value_at places k ≡ option_map (λ n. n ∷ []) c.copied-had.result =
    sym (ap (option_map (λ n. n ∷ [])) (c.copied-had.ensures ∙ c.get.ensures.value)
    ∙ (value_at-state_of key (λ n. n ∷ []) g.K.Ord.cmp g.met.K.FixedKey.in_order es c.args.key.now
    ∙ ap (λ p. value_at p k) c.self.view_is)) in
    let list = told-last key c.args.earlier.now.items c.push.new.self.items c.in_ok-remembered.remembered
    c.copied-had.result k c.in_ok-push.ensures.items
    (g.met.K.Faithful.copied c.args.key.now c.in_ok-remembered.remembered c.in_ok-remembered.ensures.cases) in
    let after = earlier_given first places (told key c.args.earlier.now.items) k (c.args.location ∷ [])
    (option_map (λ n. n ∷ []) c.copied-had.result) is had are in
    subst (λ p. AreEarlier first p (told key c.push.new.self.items)) (sym (returns-clause-ok g c))
    (subst (AreEarlier first (with_entry places k (c.args.location ∷ []))) (sym list) after)

pub returns-in_err-insert-clause-earlier : goal.returns-in_err-insert-clause-earlier
returns-in_err-insert-clause-earlier g c = λ first are.
    let key = g.K.Write.encoding in
    let es = c.self.inside.locations.entries in
    let k = key c.args.key.now in
    let places = c.args.self.now in
    let is : IsState places = subst IsState c.self.view_is
    (state_sorted key (λ n. n ∷ []) g.K.Ord.cmp g.met.K.FixedKey.in_order es c.insert.ensures.was_ordered) in
    let had : value_at places k ≡ option_map (λ n. n ∷ []) c.copied-had.result =
    sym (ap (option_map (λ n. n ∷ [])) (c.copied-had.ensures ∙ c.get.ensures.value)
    ∙ (value_at-state_of key (λ n. n ∷ []) g.K.Ord.cmp g.met.K.FixedKey.in_order es c.args.key.now
    ∙ ap (λ p. value_at p k) c.self.view_is)) in
    let own : key c.in_ok-own.own ≡ k =
    g.met.K.Faithful.copied c.args.key.now c.in_ok-own.own c.in_ok-own.ensures.cases in
    let none : value_at places k ≡ None =
    sym (ap (value_at places) own) ∙ (sym (ap (λ p. value_at p (key c.in_ok-own.own)) c.self.view_is)
    ∙ (sym (value_at-state_of key (λ n. n ∷ []) g.K.Ord.cmp g.met.K.FixedKey.in_order es c.in_ok-own.own)
    ∙ ap (option_map (λ n. n ∷ [])) c.in_err-insert.ensures.absent)) in
    let list = told-last key c.args.earlier.now.items c.push.new.self.items c.in_ok-remembered.remembered
    c.copied-had.result k c.in_ok-push.ensures.items
    (g.met.K.Faithful.copied c.args.key.now c.in_ok-remembered.remembered c.in_ok-remembered.ensures.cases) in
    let after = earlier_kept first places (told key c.args.earlier.now.items) k
    (option_map (λ n. n ∷ []) c.copied-had.result) is had none are in
    let same : state_of key (λ n. n ∷ []) c.insert.new.self.entries ≡ places =
    ap (state_of key (λ n. n ∷ [])) c.in_err-insert.ensures.err ∙ c.self.view_is in
    subst (λ p. AreEarlier first p (told key c.push.new.self.items)) (sym same)
    (subst (AreEarlier first places) (sym list) after)
