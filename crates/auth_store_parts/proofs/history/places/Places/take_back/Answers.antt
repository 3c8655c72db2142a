use Rattle.std.proofs.Common.{◌≡◌, ℕ, ◌-◌, List, [], ◌∷◌, ◌++◌, take, Option, None, Some, option_map, refl, ap, sym, subst}
use Rattle.std.proofs.Common.{◌∙◌}
use Rattle.std.specs.Prelude.{IsSome}
use Rattle.std.proofs.lemmas.List.{map-append}
use Rattle.auth_store_parts.specs.Staged.{told, taken_back, CanTakeBack, Earlier}
use Rattle.auth_store_parts.specs.Laws.Staged.{taken_back-last, CanTakeBack-front}
use Rattle.auth_store_parts.proofs.history.places.Places.take_back.Goals as goal

-- what is told of all but the last, and of it
told-front : {K : Type 0} (key : K → List ℕ) (front items : List (K × Option ℕ)) (k : K) (had : Option ℕ)
    → items ≡ front ++ (k, had) ∷ []
    → told key items ≡ told key front ++ (key k, option_map (λ location. location ∷ []) had) ∷ []
told-front key front items k had is =
    ap (told key) is
    ∙ map-append (λ one. (key one.0, option_map (λ location. location ∷ []) one.1)) front ((k, had) ∷ [])

some_mapped : (had : Option ℕ) → IsSome had → IsSome (option_map {T = ℕ} {U = List ℕ} (λ location. location ∷ []) had)
some_mapped None some = some
some_mapped (Some location) some = refl

-- a list of which none is left
emptied : {A : Type 0} (all rest : List A) (n : ℕ) → all ≡ rest ++ [] → rest ≡ take (n - 1) all → n ≡ 0 → all ≡ []
emptied all rest n split is none =
    let gone : rest ≡ [] = is ∙ ap (λ m. take (m - 1) all) none in
    split ∙ ap (λ r. r ++ []) gone

pub loop-key-init : goal.loop-key-init
loop-key-init g c = record { taken = refl; can = c.requires }

pub put_back-requires : goal.put_back-requires
put_back-requires g c = λ some.
    let key = g.K.Write.encoding in
    let list = told-front key c.pop.new.self.items c.loop-key.earlier.items c.in-Some.key c.in-Some.had
    c.in-Some.ensures.items in
    let last : Earlier = (key c.in-Some.key, option_map (λ location. location ∷ []) c.in-Some.had) in
    let front = CanTakeBack-front c.loop-key.self (told key c.pop.new.self.items) last
    (subst (CanTakeBack c.loop-key.self) list c.loop-key.invariant.can) in
    front.0 (some_mapped c.in-Some.had some)

pub loop-key-preserved : goal.loop-key-preserved
loop-key-preserved g c =
    let key = g.K.Write.encoding in
    let list = told-front key c.pop.new.self.items c.loop-key.earlier.items c.in-Some.key c.in-Some.had
    c.in-Some.ensures.items in
    let last : Earlier = (key c.in-Some.key, option_map (λ location. location ∷ []) c.in-Some.had) in
    let rest = told key c.pop.new.self.items in
    let front = CanTakeBack-front c.loop-key.self rest last
    (subst (CanTakeBack c.loop-key.self) list c.loop-key.invariant.can) in
    record {
      taken = ap (λ p. taken_back p rest) c.put_back.ensures
          ∙ (sym (taken_back-last c.loop-key.self rest last)
          ∙ (sym (ap (taken_back c.loop-key.self) list) ∙ c.loop-key.invariant.taken));
      can = subst (λ p. CanTakeBack p rest) (sym c.put_back.ensures) front.1;
    }

pub returns : goal.returns
returns g c =
    let key = g.K.Write.encoding in
    let none = emptied c.loop-key.earlier.items c.pop.new.self.items _ c.in_default.ensures.items
    c.in_default.ensures.rest c.in_default.ensures.cases.0 in
    sym (ap (λ items. taken_back c.loop-key.self (told key items)) none) ∙ c.loop-key.invariant.taken
