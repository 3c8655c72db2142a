-- A key that a state lacks is in the span of the key before it.
--
-- A state with the keys c, f and m, and where a key that it lacks may stand:
--
--      a   (c)  d   (f)  g   (m)  z        d is in the span of c, g in that of f
--                                          z and a in that of m, whose next key is c
use Rattle.std.proofs.Common.{◌≡◌, ℕ, Bool, true, false, T, cond, not, ◌&&◌, ◌||◌, List, [], ◌∷◌, ◌++◌, None, Some, inl}
use Rattle.std.proofs.Common.{inr, ◌⊎◌, refl, ap, sym, ◌∙◌, subst, ⊎_elim, append_assoc, append-nil}
use Rattle.std.specs.Prelude.{is_some}
use Rattle.std.specs.List.{AllByRecursion}
use Rattle.std.proofs.lemmas.Cmp.{nat_list_cmp_total}
use Rattle.std.specs.declared.cmp.Ordering.{Ordering}
use Rattle.std.specs.declared.cmp.Ordering.TheVariants.{Less, Equal, Greater}
use Rattle.std.specs.Ordering.{is_lt, is_gt, is_eq, ordering_reverse}
use Rattle.std.specs.FinMap.Entries.{below_all}
use Rattle.state_ops.specs.Spans.{is_below, is_in_span, span_holds}
use Rattle.auth_store_parts.specs.Map.{Map, key_order, value_at, first_key, next_key}
use Rattle.auth_store_parts.specs.History.{IsState}
use Rattle.auth_store_parts.specs.Laws.Lookups.{IsState-tail}
use Rattle.auth_store_parts.specs.Laws.Below.{IsBelow, value_at_head, value_at_behind}
use Rattle.auth_store_parts.specs.Laws.Neighbours.{next_behind, next_of_last}
use Rattle.auth_store_index.specs.Near.{below, last_key, prev_key}
use Rattle.auth_store_index.specs.Laws.Nexts.{none_first}
use Rattle.auth_store_index.specs.Laws.Prevs.{below_none, last_append}

first : (a b : Bool) → T (a && b) → T a
first true b p = tt
first false b p = p

second : (a b : Bool) → T (a && b) → T b
second true b p = p
second false b p = absurd p

both : (a b : Bool) → T a → T b → T (a && b)
both true b p q = q
both false b p q = p

is_true : (b : Bool) → T b → b ≡ true
is_true true t = refl
is_true false t = absurd t

less : (o : Ordering) → T (is_lt o) → o ≡ Less
less Less t = refl
less Equal t = absurd t
less Greater t = absurd t

pub transitive : (k l m : List ℕ) → IsBelow k l → IsBelow l m → IsBelow k m
transitive k l m s t = subst (λ o. T (is_lt o)) (sym (nat_list_cmp_total.trans k l m (less _ s) (less _ t))) tt

-- the other way round a key is not below
pub not_below : (k l : List ℕ) → IsBelow k l → is_below l k ≡ false
not_below k l under = ap is_lt (nat_list_cmp_total.antisymm l k) ∙ turned (key_order k l) under
  where
    turned : (o : Ordering) → T (is_lt o) → is_lt (ordering_reverse o) ≡ false
    turned Less t = refl
    turned Equal t = absurd t
    turned Greater t = absurd t

below_above : (q k : List ℕ) (s : Map) → IsBelow q k → T (below_all key_order k s) → T (below_all key_order q s)
below_above q k [] under all = tt
below_above q k (e ∷ s) under all =
    both _ _ (transitive q k e.0 under (first _ _ all))
    (below_above q k s under (second (is_lt (key_order k e.0)) _ all))

-- a state in two parts: the keys below a key that it lacks, and those above it
record Split (s : Map) (q : List ℕ) : Type 0 where
  low : Map
  high : Map
  whole : low ++ high ≡ s
  is_low : below s q ≡ low
  under : AllByRecursion (λ (e : List ℕ × List ℕ). IsBelow e.0 q) low
  over : T (below_all key_order q high)

split : (s : Map) (q : List ℕ) → IsState s → value_at s q ≡ None → Split s q
split [] q sorted lacks = record { low = []; high = []; whole = refl; is_low = refl; under = tt; over = tt }
split (e ∷ s) q sorted lacks = of (λ none. split s q (IsState-tail e s sorted) none) (key_order q e.0) refl
  where
    of : (value_at s q ≡ None → Split s q) → (o : Ordering) → key_order q e.0 ≡ o → Split (e ∷ s) q
    of later Less is =
        let up : IsBelow q e.0 = subst (λ x. T (is_lt x)) (sym is) tt in
        let all : T (below_all key_order q (e ∷ s)) = both _ _ up (below_above q e.0 s up (first _ _ sorted)) in
        record { low = []; high = e ∷ s; whole = refl; is_low = below_none q (e ∷ s) all; under = tt; over = all }
    of later Equal is =
        let gone : Some e.1 ≡ None = sym (ap (λ o. cond (is_eq o) (Some e.1) (value_at s q)) is) ∙ lacks in absurd cc
    of later Greater is =
        let rest = later (sym (ap (λ o. cond (is_eq o) (Some e.1) (value_at s q)) is) ∙ lacks) in
        let down : IsBelow e.0 q = subst (λ x. T (is_lt x)) (sym (nat_list_cmp_total.antisymm e.0 q
        ∙ ap ordering_reverse is)) tt in
        record {
          low = e ∷ rest.low;
          high = rest.high;
          whole = ap (λ l. e ∷ l) rest.whole;
          is_low = ap (λ o. cond (is_gt o) (e ∷ below s q) (below s q)) is ∙ ap (λ l. e ∷ l) rest.is_low;
          under = (down, rest.under);
          over = rest.over;
        }

-- entries with the last of them apart
record Ends (s : Map) : Type 0 where
  done : Map
  entry : List ℕ × List ℕ
  whole : done ++ entry ∷ [] ≡ s

ends : (e : List ℕ × List ℕ) (s : Map) → Ends (e ∷ s)
ends e [] = record { done = []; entry = e; whole = refl }
ends e (f ∷ s) = let rest = ends f s in
    record { done = e ∷ rest.done; entry = rest.entry; whole = ap (λ l. e ∷ l) rest.whole }

all_at : (q : List ℕ) (done : Map) (e : List ℕ × List ℕ) (rest : Map)
    → AllByRecursion (λ (x : List ℕ × List ℕ). IsBelow x.0 q) (done ++ e ∷ rest) → IsBelow e.0 q
all_at q [] e rest all = all.0
all_at q (d ∷ done) e rest all = all_at q done e rest all.1

over_at : (k : List ℕ) (done : Map) (e : List ℕ × List ℕ) (rest : Map) → T (below_all key_order k (done ++ e ∷ rest))
    → IsBelow k e.0
over_at k [] e rest all = first _ _ all
over_at k (d ∷ done) e rest all = over_at k done e rest (second (is_lt (key_order k d.0)) _ all)

behind : (done : Map) (e f : List ℕ × List ℕ) (rest : Map) → IsState (done ++ e ∷ f ∷ rest) → IsBelow e.0 f.0
behind [] e f rest sorted = first _ _ (first _ _ sorted)
behind (d ∷ done) e f rest sorted = behind done e f rest (IsState-tail d (done ++ e ∷ f ∷ rest) sorted)

there : (done : Map) (e : List ℕ × List ℕ) (rest : Map) → IsState (done ++ e ∷ rest)
    → value_at (done ++ e ∷ rest) e.0 ≡ Some e.1
there [] e rest sorted = value_at_head e rest
there (d ∷ done) e rest sorted =
    value_at_behind d (done ++ e ∷ rest) e.0 e.1 sorted (there done e rest (IsState-tail d (done ++ e ∷ rest) sorted))

last_of : (s done : Map) (e : List ℕ × List ℕ) → last_key (s ++ (done ++ e ∷ [])) ≡ e.0
last_of s done e = ap last_key (sym (append_assoc s done (e ∷ []))) ∙ last_append (s ++ done) e []

-- a span up to a key that is above its own
straight : (key next asked : List ℕ) → IsBelow key next → IsBelow key asked → IsBelow asked next
    → is_in_span key next asked ≡ true
straight key next asked up from before =
    ap (λ o. span_holds o (is_below asked key) (is_below asked next)) (less _ up)
    ∙ (ap (λ b. not b && is_below asked next) (not_below key asked from) ∙ is_true _ before)

-- one that goes round the end
round : (key next asked : List ℕ) → (IsBelow key next → ⊥) → IsBelow key asked ⊎ IsBelow asked next
    → is_in_span key next asked ≡ true
round key next asked not_up at = of (key_order key next) refl
  where
    of : (o : Ordering) → key_order key next ≡ o → is_in_span key next asked ≡ true
    of Less is = absurd (not_up (subst (λ x. T (is_lt x)) (sym is) tt))
    of Equal is = ap (λ o. span_holds o (is_below asked key) (is_below asked next)) is
    of Greater is = ap (λ o. span_holds o (is_below asked key) (is_below asked next)) is ∙ ⊎_elim
        (λ from. ap (λ b. not b || is_below asked next) (not_below key asked from))
        (λ before. ap (λ b. not (is_below asked key) || b) (is_true _ before) ∙ or_true (not (is_below asked key)))
        at
      where
        or_true : (b : Bool) → (b || true) ≡ true
        or_true true = refl
        or_true false = refl

-- the last key of a state has the first one as its next, which is not above it
module _ (s done : Map) (e : List ℕ × List ℕ) (whole : done ++ e ∷ [] ≡ s) (sorted : IsState s) where
  first_not_above : IsBelow e.0 (first_key s) → ⊥
  first_not_above under =
      none_first s e.0 sorted
      (ap is_some (subst (λ (m : Map). IsState m → value_at m e.0 ≡ Some e.1) whole (there done e []) sorted)) under

  around : (q : List ℕ) → IsBelow e.0 q ⊎ IsBelow q (first_key s) → is_in_span e.0 (next_key s e.0) q ≡ true
  around q at =
      ap (λ n. is_in_span e.0 n q) (next_of_last s done e whole sorted)
      ∙ round e.0 (first_key s) q first_not_above at

-- the entry before a key that the state lacks
record IsBefore (s : Map) (q : List ℕ) : Type 0 where
  done : Map
  entry : List ℕ × List ℕ
  rest : Map
  whole : done ++ entry ∷ rest ≡ s
  key : prev_key s q ≡ entry.0
  span : is_in_span entry.0 (next_key s entry.0) q ≡ true

find : (s : Map) (q : List ℕ) (e : List ℕ × List ℕ) (more : Map) → s ≡ e ∷ more → IsState s
    → value_at s q ≡ None → IsBefore s q
find s q e more some sorted lacks =
    let parts = split s q sorted lacks in of parts.low parts.high parts.whole parts.is_low parts.under parts.over
  where
    of : (low high : Map) → low ++ high ≡ s → below s q ≡ low
        → AllByRecursion (λ (x : List ℕ × List ℕ). IsBelow x.0 q) low
        → T (below_all key_order q high) → IsBefore s q
    of [] high whole is_low under over =
        let last = ends e more in
        let at : last.done ++ last.entry ∷ [] ≡ s = last.whole ∙ sym some in
        record {
          done = last.done;
          entry = last.entry;
          rest = [];
          whole = at;
          key = ap (λ b. last_key (s ++ b)) is_low ∙ (ap last_key (append-nil s)
              ∙ (ap last_key (sym at) ∙ last_append last.done last.entry []));
          span = around s last.done last.entry at sorted q
              (inr (first_of (subst (λ (m : Map). T (below_all key_order q m)) whole over)));
        }
      where
        first_of : T (below_all key_order q s) → IsBelow q (first_key s)
        first_of all = subst (λ (m : Map). T (below_all key_order q m) → IsBelow q (first_key m)) (sym some)
            (λ each. first _ _ each) all
    of (x ∷ low) high whole is_low under over =
        let last = ends x low in
        by high whole over last
        (ap (λ b. last_key (s ++ b)) (is_low ∙ sym last.whole) ∙ last_of s last.done last.entry)
        (all_at q last.done last.entry []
        (subst (AllByRecursion (λ (y : List ℕ × List ℕ). IsBelow y.0 q)) (sym last.whole) under))
      where
        by : (high : Map) → (x ∷ low) ++ high ≡ s → T (below_all key_order q high) → (last : Ends (x ∷ low))
            → prev_key s q ≡ last.entry.0 → IsBelow last.entry.0 q → IsBefore s q
        by [] whole over last prev down =
            let at : last.done ++ last.entry ∷ [] ≡ s = last.whole ∙ (sym (append-nil (x ∷ low)) ∙ whole) in
            record {
              done = last.done;
              entry = last.entry;
              rest = [];
              whole = at;
              key = prev;
              span = around s last.done last.entry at sorted q (inl down);
            }
        by (f ∷ high) whole over last prev down =
            let at : last.done ++ last.entry ∷ f ∷ high ≡ s =
            sym (append_assoc last.done (last.entry ∷ []) (f ∷ high)) ∙ (ap (λ l. l ++ f ∷ high) last.whole ∙ whole) in
            record {
              done = last.done;
              entry = last.entry;
              rest = f ∷ high;
              whole = at;
              key = prev;
              span = ap (λ n. is_in_span last.entry.0 n q) (next_behind s last.done last.entry f high at sorted)
                  ∙ straight last.entry.0 f.0 q
                  (behind last.done last.entry f high (subst IsState (sym at) sorted)) down (first _ _ over);
            }

pub in_span_before : (s : Map) (q : List ℕ) (e : List ℕ × List ℕ) (more : Map) → s ≡ e ∷ more
    → IsState s → value_at s q ≡ None
    → is_in_span (prev_key s q) (next_key s (prev_key s q)) q ≡ true
in_span_before s q e more some sorted lacks =
    let it = find s q e more some sorted lacks in
    subst (λ k. is_in_span k (next_key s k) q ≡ true) (sym it.key) it.span

-- the key before it is there
pub before_is_there : (s : Map) (q : List ℕ) (e : List ℕ × List ℕ) (more : Map) → s ≡ e ∷ more
    → IsState s → value_at s q ≡ None
    → (v : List ℕ) × (value_at s (prev_key s q) ≡ Some v)
before_is_there s q e more some sorted lacks =
    let it = find s q e more some sorted lacks in (
      it.entry.1,
      ap (value_at s) it.key
          ∙ subst (λ (m : Map). IsState m
          → value_at m it.entry.0 ≡ Some it.entry.1) it.whole (there it.done it.entry it.rest) sorted,
    )
