-- What is told of a new state by few keys.
use Rattle.std.proofs.Common.{◌≡◌, ℕ, Bool, true, false, T, cond, not, ◌&&◌, List, [], ◌∷◌, ◌++◌, Option, None, Some}
use Rattle.std.proofs.Common.{refl, ap, sym, ◌∙◌, subst}
use Rattle.std.specs.Prelude.{is_some, filter, map}
use Rattle.std.proofs.lemmas.Cmp.{nat_list_cmp_total}
use Rattle.std.proofs.lemmas.Map.Lookups.{exact_bytes}
use Rattle.std.specs.Ordering.{is_lt, is_gt}
use Rattle.std.specs.declared.cmp.Ordering.{Ordering}
use Rattle.std.specs.declared.cmp.Ordering.TheVariants.{Less, Equal, Greater}
use Rattle.std.specs.FinMap.Entries.{same_entries, is_sorted-where_key, find-where_key}
use Rattle.state_ops.specs.Operation.{delete}
use Rattle.auth_store_parts.specs.Map.{Map, key_order, value_at, above, first_key, next_key}
use Rattle.auth_store_parts.specs.History.{IsState, deletes, updates, is_kept}
use Rattle.auth_store_parts.specs.Laws.Lookups.{value_at-find, IsState-tail}
use Rattle.auth_store_parts.specs.Laws.Below.{IsBelow, value_at_head, value_at_behind, none_below_first}
use Rattle.auth_store_parts.specs.Laws.Neighbours.{above_passed}
use Rattle.auth_store_index.specs.Near.{below, between, staying, next_near, next_round, IsTold}
use Rattle.auth_store_index.specs.Laws.Nexts.{one_key, none_between, none_above, none_first, next_of, next_least}
use Rattle.auth_store_index.specs.Laws.Nexts.{first_above, found, value_at-above, is_true}
use Rattle.auth_store_index.specs.Laws.Prevs.{is_above, is_under}
use Rattle.auth_store_index.specs.Laws.Touching.{updates_where, deletes_where}

less : (o : Ordering) → T (is_lt o) → o ≡ Less
less Less t = refl
less Equal t = absurd t
less Greater t = absurd t

transitive : (k l m : List ℕ) → IsBelow k l → IsBelow l m → IsBelow k m
transitive k l m s t = subst (λ o. T (is_lt o)) (sym (nat_list_cmp_total.trans k l m (less _ s) (less _ t))) tt

of_true : (b : Bool) → b ≡ true → T b
of_true true h = tt
of_true false h = cc

-- of the entries whose keys pass a test those are found
pub value_at-where : (p : List ℕ → Bool) (s : Map) (q : List ℕ)
    → value_at (filter (λ e. p e.0) s) q ≡ cond (p q) (value_at s q) None
value_at-where p s q =
    value_at-find q (filter (λ e. p e.0) s)
    ∙ (find-where_key key_order p q (λ x is. ap p (sym (exact_bytes q x is))) s
    ∙ ap (λ r. cond (p q) r None) (sym (value_at-find q s)))

pub IsState-where : (p : List ℕ → Bool) (s : Map) → IsState s → IsState (filter (λ e. p e.0) s)
IsState-where p s h = is_sorted-where_key key_order p s h

-- the next key is the key above with none between
next_is_above : (s : Map) (k x : List ℕ) → IsState s → IsBelow k x → is_some (value_at s x) ≡ true
    → ((y : List ℕ) → is_some (value_at s y) ≡ true → IsBelow k y → IsBelow y x → ⊥) → next_key s k ≡ x
next_is_above s k x h up there none = of (above s k) refl
  where
    of : (a : Map) → above s k ≡ a → next_key s k ≡ x
    of [] is = absurd (none_above s k x is up there)
    of (a ∷ more) is =
        let over : IsBelow k a.0 = first_above s k a more is in
        let own : is_some (value_at s a.0) ≡ true =
        ap is_some (sym (value_at-above s k a.0 over) ∙ (ap (λ m. value_at m a.0) is ∙ value_at_head a more)) in
        next_of s k a more is
        ∙ one_key a.0 x (none a.0 own over) (none_between s k x a more h is up there)

-- or the first one, where none is above
next_is_first : (s : Map) (k x : List ℕ) → IsState s → is_some (value_at s x) ≡ true
    → ((y : List ℕ) → is_some (value_at s y) ≡ true → IsBelow k y → ⊥)
    → ((y : List ℕ) → is_some (value_at s y) ≡ true → IsBelow y x → ⊥) → next_key s k ≡ x
next_is_first s k x h there none least = of (above s k) refl
  where
    head : (m : Map) → is_some (value_at m x) ≡ true → is_some (value_at m (first_key m)) ≡ true
    head [] at = absurd (cc)
    head (e ∷ m) at = ap is_some (value_at_head e m)

    of : (a : Map) → above s k ≡ a → next_key s k ≡ x
    of [] is = next_least s k is
        ∙ one_key (first_key s) x (least (first_key s) (head s there)) (none_first s x h there)
    of (a ∷ more) is =
        let over : IsBelow k a.0 = first_above s k a more is in
        let own : is_some (value_at s a.0) ≡ true =
        ap is_some (sym (value_at-above s k a.0 over) ∙ (ap (λ m. value_at m a.0) is ∙ value_at_head a more)) in
        absurd (none a.0 own over)

neither : (o : Option (List ℕ)) → (is_some o ≡ true → ⊥) → o ≡ None
neither None h = refl
neither (Some v) h = absurd (h refl)

-- what is found among the keys that stay and pass a test
found_staying : (gone s : Map) (p : List ℕ → Bool) (y : List ℕ) → is_some (value_at gone y) ≡ false → p y ≡ true
    → value_at (staying gone (filter (λ e. p e.0) s)) y ≡ value_at s y
found_staying gone s p y stays passes =
    value_at-where (λ k. not (is_some (value_at gone k))) (filter (λ e. p e.0) s) y
    ∙ (ap (λ b. cond (not b) (value_at (filter (λ e. p e.0) s) y) None) stays
    ∙ (value_at-where p s y ∙ ap (λ b. cond b (value_at s y) None) passes))

-- the first of them
record IsFirst (gone s : Map) (p : List ℕ → Bool) (g : List ℕ × List ℕ) : Type 0 where
  passes : p g.0 ≡ true
  stays : is_some (value_at gone g.0) ≡ false
  there : value_at s g.0 ≡ Some g.1

first_staying : (gone s : Map) (p : List ℕ → Bool) (g : List ℕ × List ℕ) (more : Map)
    → staying gone (filter (λ e. p e.0) s) ≡ g ∷ more → IsFirst gone s p g
first_staying gone s p g more is =
    let at : cond (not (is_some (value_at gone g.0))) (cond (p g.0) (value_at s g.0) None) None ≡ Some g.1 =
    sym (value_at-where (λ k. not (is_some (value_at gone k))) (filter (λ e. p e.0) s) g.0
    ∙ ap (λ r. cond (not (is_some (value_at gone g.0))) r None) (value_at-where p s g.0))
    ∙ (ap (λ m. value_at m g.0) is ∙ value_at_head g more) in
    of (is_some (value_at gone g.0)) (p g.0) refl refl at
  where
    of : (b c : Bool) → is_some (value_at gone g.0) ≡ b → p g.0 ≡ c
        → cond (not b) (cond c (value_at s g.0) None) None ≡ Some g.1 → IsFirst gone s p g
    of true c is_b is_c at = absurd (cc)
    of false false is_b is_c at = absurd (cc)
    of false true is_b is_c at = record { passes = is_c; stays = is_b; there = at }

-- none of them is below it
least_staying : (gone s : Map) (p : List ℕ → Bool) (g : List ℕ × List ℕ) (more : Map) (y : List ℕ) → IsState s
    → staying gone (filter (λ e. p e.0) s) ≡ g ∷ more → is_some (value_at gone y) ≡ false → p y ≡ true
    → is_some (value_at s y) ≡ true → IsBelow y g.0 → ⊥
least_staying gone s p g more y h is stays passes there under =
    let at = found (value_at s y) there in
    none_below_first g more y at.0
    (subst IsState is (IsState-where (λ k. not (is_some (value_at gone k)))
    (filter (λ e. p e.0) s) (IsState-where p s h)))
    (sym (ap (λ m. value_at m y) is) ∙ (found_staying gone s p y stays passes ∙ at.1)) under

none_staying : (gone s : Map) (p : List ℕ → Bool) (y : List ℕ)
    → staying gone (filter (λ e. p e.0) s) ≡ [] → is_some (value_at gone y) ≡ false → p y ≡ true
    → is_some (value_at s y) ≡ true → ⊥
none_staying gone s p y is stays passes there =
    let at = found (value_at s y) there in
    let none : None ≡ Some at.0 = ap (λ m. value_at m y) (sym is) ∙ (found_staying gone s p y stays passes ∙ at.1) in cc

module _ (old gone near new : Map) (told : IsTold old gone near new) where
  -- what is near is in the new state
  near_there : (q : List ℕ) → is_some (value_at near q) ≡ true → value_at new q ≡ value_at near q
  near_there q there =
      told.told q ∙ ap (λ b. cond b (value_at near q) (cond (is_some (value_at gone q)) None (value_at old q))) there

  -- what is not near has not gone, and is as it was
  pub record IsOld (y : List ℕ) : Type 0 where
    pub stays : is_some (value_at gone y) ≡ false
    pub same : value_at new y ≡ value_at old y

  pub far : (y : List ℕ) → value_at near y ≡ None → is_some (value_at new y) ≡ true → IsOld y
  far y away there = of (is_some (value_at gone y)) refl
    where
      is : value_at new y ≡ cond (is_some (value_at gone y)) None (value_at old y)
      is = told.told y ∙ ap (λ o. cond (is_some o) o (cond (is_some (value_at gone y)) None (value_at old y))) away

      of : (b : Bool) → is_some (value_at gone y) ≡ b → IsOld y
      of true gone_y = let none : value_at new y ≡ None = is ∙ ap (λ b. cond b None (value_at old y)) gone_y in
          absurd (never (sym there ∙ ap is_some none))
        where
          never : true ≡ false → ⊥
          never e = cc
      of false stays = record { stays = stays; same = is ∙ ap (λ b. cond b None (value_at old y)) stays }

  -- what was there and has not gone is there
  still : (y : List ℕ) → value_at near y ≡ None → is_some (value_at gone y) ≡ false → value_at new y ≡ value_at old y
  still y away stays =
      told.told y ∙ (ap (λ o. cond (is_some o) o (cond (is_some (value_at gone y)) None (value_at old y))) away
      ∙ ap (λ b. cond b None (value_at old y)) stays)

  in_between : (k e y : List ℕ) → IsBelow k y → IsBelow y e → (is_lt (key_order k y) && is_gt (key_order e y)) ≡ true
  in_between k e y up under = ap (λ b. b && is_gt (key_order e y)) (is_true _ up) ∙ is_above y e under

  parts : (a b : Bool) → (a && b) ≡ true → (a ≡ true) × (b ≡ true)
  parts true b h = (refl, h)
  parts false b h = absurd (cc)

  -- between two neighbours among those that are near
  pub next_told : (done : Map) (e f : List ℕ × List ℕ) (rest : Map) → done ++ e ∷ f ∷ rest ≡ near
      → IsBelow e.0 f.0 → next_key new e.0 ≡ next_near old gone e.0 f.0
  next_told done e f rest is up = of (staying gone (between old e.0 f.0)) refl
    where
      inside : List ℕ → Bool
      inside y = is_lt (key_order e.0 y) && is_gt (key_order f.0 y)

      behind : above near e.0 ≡ f ∷ rest
      behind = subst (λ m. IsState m → above m e.0 ≡ f ∷ rest) is (above_passed done e (f ∷ rest)) told.near_is

      away : (y : List ℕ) → IsBelow e.0 y → IsBelow y f.0 → value_at near y ≡ None
      away y over under = neither (value_at near y)
          (λ there. none_between near e.0 y f rest told.near_is behind over there under)

      end : is_some (value_at near f.0) ≡ true
      end = ap is_some (sym (value_at-above near e.0 f.0 up) ∙ (ap (λ m. value_at m f.0) behind ∙ value_at_head f rest))

      of : (l : Map) → staying gone (between old e.0 f.0) ≡ l → next_key new e.0 ≡ first_key (l ++ (f.0, []) ∷ [])
      of [] none = next_is_above new e.0 f.0 told.new_is up (ap is_some (near_there f.0 end) ∙ end)
          (λ y there over under. let as_before = far y (away y over under) there in
          none_staying gone old inside y none as_before.stays (in_between e.0 f.0 y over under)
          (ap is_some (sym as_before.same) ∙ there))
      of (g ∷ more) some =
          let one = first_staying gone old inside g more some in
          let at = parts (is_lt (key_order e.0 g.0)) (is_gt (key_order f.0 g.0)) one.passes in
          let over : IsBelow e.0 g.0 = of_true _ at.0 in
          let under : IsBelow g.0 f.0 = is_under g.0 f.0 at.1 in
          next_is_above new e.0 g.0 told.new_is over
          (ap is_some (still g.0 (away g.0 over under) one.stays ∙ one.there))
          (λ y there up_y under_y. let low : IsBelow y f.0 = transitive y g.0 f.0 under_y under in
          let as_before = far y (away y up_y low) there in
          least_staying gone old inside g more y told.old_is some as_before.stays (in_between e.0 f.0 y up_y low)
          (ap is_some (sym as_before.same) ∙ there) under_y)

  -- and behind the last of them
  pub next_round_told : (done : Map) (e : List ℕ × List ℕ) → done ++ e ∷ [] ≡ near
      → next_key new e.0 ≡ next_round old gone e.0 (first_key near)
  next_round_told done e is = of (staying gone (above old e.0)) refl
    where
      least : List ℕ
      least = first_key near

      beyond : List ℕ → Bool
      beyond y = is_lt (key_order e.0 y)

      before : List ℕ → Bool
      before y = is_gt (key_order least y)

      behind : above near e.0 ≡ []
      behind = subst (λ m. IsState m → above m e.0 ≡ []) is (above_passed done e []) told.near_is

      away : (y : List ℕ) → IsBelow e.0 y → value_at near y ≡ None
      away y over = neither (value_at near y) (λ there. none_above near e.0 y behind over there)

      away_too : (y : List ℕ) → IsBelow y least → value_at near y ≡ None
      away_too y under = neither (value_at near y) (λ there. none_first near y told.near_is there under)

      head : (m : Map) (done : Map) → done ++ e ∷ [] ≡ m → is_some (value_at m (first_key m)) ≡ true
      head [] [] is = absurd (cc)
      head [] (d ∷ done) is = absurd (cc)
      head (d ∷ m) done is = ap is_some (value_at_head d m)

      start : is_some (value_at near least) ≡ true
      start = head near done is

      none_over : staying gone (above old e.0) ≡ [] → (y : List ℕ) → is_some (value_at new y) ≡ true → IsBelow e.0 y → ⊥
      none_over none y there over = let as_before = far y (away y over) there in
          none_staying gone old beyond y none as_before.stays (is_true _ over) (ap is_some (sym as_before.same) ∙ there)

      around : staying gone (above old e.0) ≡ [] → (l : Map) → staying gone (below old least) ≡ l
          → next_key new e.0 ≡ first_key (l ++ (least, []) ∷ [])
      around none [] nor = next_is_first new e.0 least told.new_is (ap is_some (near_there least start) ∙ start)
          (none_over none)
          (λ y there under. let as_before = far y (away_too y under) there in
          none_staying gone old before y nor as_before.stays (is_above y least under) (ap is_some (sym as_before.same)
          ∙ there))
      around none (g ∷ more) some =
          let one = first_staying gone old before g more some in
          let under : IsBelow g.0 least = is_under g.0 least one.passes in
          next_is_first new e.0 g.0 told.new_is
          (ap is_some (still g.0 (away_too g.0 under) one.stays ∙ one.there)) (none_over none)
          (λ y there under_y. let low : IsBelow y least = transitive y g.0 least under_y under in
          let as_before = far y (away_too y low) there in
          least_staying gone old before g more y told.old_is some as_before.stays (is_above y least low)
          (ap is_some (sym as_before.same) ∙ there) under_y)

      of : (l : Map) → staying gone (above old e.0) ≡ l
          → next_key new e.0 ≡ first_key (l ++ (staying gone (below old least) ++ (least, []) ∷ []))
      of [] none = around none (staying gone (below old least)) refl
      of (g ∷ more) some =
          let one = first_staying gone old beyond g more some in
          let over : IsBelow e.0 g.0 = of_true _ one.passes in
          next_is_above new e.0 g.0 told.new_is over
          (ap is_some (still g.0 (away g.0 over) one.stays ∙ one.there))
          (λ y there up_y under_y. let as_before = far y (away y up_y) there in
          least_staying gone old beyond g more y told.old_is some as_before.stays (is_true _ up_y)
          (ap is_some (sym as_before.same) ∙ there) under_y)

  -- what is near is a part of the new state
  near_part : near ≡ filter (λ e. is_some (value_at near e.0)) new
  near_part =
      same_entries key_order nat_list_cmp_total exact_bytes near
      (filter (λ e. is_some (value_at near e.0)) new) told.near_is
      (IsState-where (λ q. is_some (value_at near q)) new told.new_is)
      (λ q. sym (value_at-find q near) ∙ (of q (is_some (value_at near q)) refl
      ∙ (sym (value_at-where (λ q. is_some (value_at near q)) new q)
      ∙ value_at-find q (filter (λ e. is_some (value_at near e.0)) new))))
    where
      none : (o : Option (List ℕ)) → is_some o ≡ false → o ≡ None
      none None h = refl
      none (Some v) h = cc

      of : (q : List ℕ) (b : Bool) → is_some (value_at near q) ≡ b
          → value_at near q ≡ cond (is_some (value_at near q)) (value_at new q) None
      of q true is = sym (ap (λ b. cond b (value_at new q) None) is ∙ near_there q is)
      of q false is = none (value_at near q) is ∙ sym (ap (λ b. cond b (value_at new q) None) is)

  gone_part : gone ≡ filter (λ e. is_some (value_at gone e.0)) old
  gone_part =
      same_entries key_order nat_list_cmp_total exact_bytes gone
      (filter (λ e. is_some (value_at gone e.0)) old) told.gone_is
      (IsState-where (λ q. is_some (value_at gone q)) old told.old_is)
      (λ q. sym (value_at-find q gone) ∙ (of q (value_at gone q) refl
      ∙ (sym (value_at-where (λ q. is_some (value_at gone q)) old q)
      ∙ value_at-find q (filter (λ e. is_some (value_at gone e.0)) old))))
    where
      of : (q : List ℕ) (o : Option (List ℕ)) → value_at gone q ≡ o
          → value_at gone q ≡ cond (is_some (value_at gone q)) (value_at old q) None
      of q None is = is ∙ sym (ap (λ o. cond (is_some o) (value_at old q) None) is)
      of q (Some v) is = is ∙ sym (ap (λ o. cond (is_some o) (value_at old q) None) is ∙ told.left q v is)

  -- the keys that go are deleted, and no others
  pub gone_tell : deletes gone new ≡ deletes old new
  gone_tell =
      ap (λ g. deletes g new) gone_part
      ∙ deletes_where (λ q. is_some (value_at gone q)) old new told.old_is
      (λ q v at stays. of q v at stays (value_at near q) refl)
    where
      of : (q v : List ℕ) → value_at old q ≡ Some v → is_some (value_at gone q) ≡ false → (o : Option (List ℕ))
          → value_at near q ≡ o → is_some (value_at new q) ≡ true
      of q v at stays None away = ap is_some (still q away stays ∙ at)
      of q v at stays (Some w) there = ap is_some (near_there q (ap is_some there) ∙ there)

  gone_all : (es : Map) → ((q : List ℕ) → is_some (value_at es q) ≡ true → value_at new q ≡ None) → IsState es
      → deletes es new ≡ map (λ e. delete e.0) es
  gone_all [] none h = refl
  gone_all (e ∷ es) none h =
      ap (λ o. cond (is_some o) [] (delete e.0 ∷ []) ++ deletes es new) (none e.0 (ap is_some (value_at_head e es)))
      ∙ ap (λ r. delete e.0 ∷ r) (gone_all es (λ q there. let at = found (value_at es q) there in
      none q (ap is_some (value_at_behind e es q at.0 h at.1))) (IsState-tail e es h))

  pub deletes_told : map (λ e. delete e.0) gone ≡ deletes old new
  deletes_told =
      sym (gone_all gone (λ q there. told.told q
      ∙ (ap (λ o. cond (is_some o) o (cond (is_some (value_at gone q)) None (value_at old q))) (told.apart q there)
      ∙ ap (λ b. cond b None (value_at old q)) there)) told.gone_is)
      ∙ gone_tell

  -- where all others are kept, what is near is updated, and no others
  pub updates_told : ((q v : List ℕ) → value_at new q ≡ Some v → value_at near q ≡ None → is_kept old new q v ≡ true)
      → updates near old new ≡ updates new old new
  updates_told kept =
      ap (λ n. updates n old new) near_part
      ∙ updates_where (λ q. is_some (value_at near q)) new old new told.new_is
      (λ q v at away. kept q v at (none (value_at near q) away))
    where
      none : (o : Option (List ℕ)) → is_some o ≡ false → o ≡ None
      none None h = refl
      none (Some v) h = cc
