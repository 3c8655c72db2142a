-- How the entries of a map of the code are seen as a state.
use Rattle.std.proofs.Common.{◌≡◌, ℕ, Bor, Bool, true, false, cond, List, [], ◌∷◌, ◌++◌, Option, None, Some, option_map}
use Rattle.std.proofs.Common.{refl, ap, sym, ◌∙◌}
use Rattle.std.specs.Prelude.{filter, slice_get, unwrap_or, option_copied, ◌&&◌}
use Rattle.std.specs.declared.cmp.Ordering.{Ordering}
use Rattle.std.specs.declared.cmp.Ordering.TheVariants.{Less, Equal, Greater}
use Rattle.std.specs.Ordering.{match_ordering, is_lt, is_eq}
use Rattle.std.specs.BTreeMap.{BTreeMap, insert_entry, is_at, IsClone}
use Rattle.std.specs.BTreeMap.Range.{range_contains}
use Rattle.std.specs.declared.ops.Bound.TheVariants.{Excluded, Unbounded}
use Rattle.std.specs.Str.{bytes_eq}
use Rattle.std.proofs.lemmas.Map.Text.{is_eq-slice_cmp}
use Rattle.std.specs.List.{AllZip}
use Rattle.std.specs.Prelude.{Result, Ok, Err, MatchResult, IfOk}
use Rattle.std.specs.Map.{lookup, remove_entry}
use Rattle.auth_store_parts.specs.Map.{state_of, with_entry, without_key, value_at, above, first_key, next_key}
use Rattle.auth_store_parts.specs.Map.{key_order}

pub state_of-insert_entry : {K V : Type 0} (key : K → List ℕ) (value : V → List ℕ) (cmp : K → K → Ordering)
    → ((a b : K) → cmp a b ≡ key_order (key a) (key b))
    → (es : List (K × V)) (k : K) (v : V) → state_of key value (insert_entry cmp es k v) ≡ with_entry
    (state_of key value es) (key k) (value v)
state_of-insert_entry key value cmp ordered [] k v = refl
state_of-insert_entry key value cmp ordered (e ∷ es) k v =
    rw (← ordered k e.0) (elim (cmp k e.0) as (λ r. state_of key value
    (match_ordering r ((k, v) ∷ e ∷ es) ((e.0, v) ∷ es) (e ∷ insert_entry cmp es k v)) ≡ match_ordering r
    ((key k, value v) ∷ (key e.0, value e.1) ∷ state_of key value es)
    ((key e.0, value v) ∷ state_of key value es) ((key e.0, value e.1) ∷ with_entry (state_of key value es)
    (key k) (value v))) [
      | Less ↦ refl
      | Equal ↦ refl
      | Greater ↦ ap (λ s. (key e.0, value e.1) ∷ s) (state_of-insert_entry key value cmp ordered es k v)
    ])

-- the same with copies of the key and of the value
pub state_of-insert_copies : {K V : Type 0} (key : K → List ℕ) (value : V → List ℕ) (cmp : K → K → Ordering)
    → ((a b : K) → cmp a b ≡ key_order (key a) (key b))
    → (es new : List (K × V)) (k l : K) (v w : V) → key l ≡ key k → value w ≡ value v → new ≡ insert_entry cmp es l w
    → state_of key value new ≡ with_entry (state_of key value es) (key k) (value v)
state_of-insert_copies key value cmp ordered es new k l v w same_key same_value is =
    ap (state_of key value) is ∙ (state_of-insert_entry key value cmp ordered es l w
    ∙ (ap (λ x. with_entry (state_of key value es) x (value w)) same_key
    ∙ ap (λ x. with_entry (state_of key value es) (key k) x) same_value))

pub state_of-remove_entry : {K V : Type 0} (key : K → List ℕ) (value : V → List ℕ) (cmp : K → K → Ordering)
    → ((a b : K) → cmp a b ≡ key_order (key a) (key b))
    → (es : List (K × V)) (k : K) → state_of key value (remove_entry (is_at (cmp k)) es) ≡ without_key
    (state_of key value es) (key k)
state_of-remove_entry key value cmp ordered [] k = refl
state_of-remove_entry key value cmp ordered (e ∷ es) k =
    rw (← ordered k e.0) (elim (is_eq (cmp k e.0)) as (λ b. state_of key value
    (cond b es (e ∷ remove_entry (is_at (cmp k)) es)) ≡ cond b (state_of key value es)
    ((key e.0, value e.1) ∷ without_key (state_of key value es) (key k))) [
      | true ↦ refl
      | false ↦ ap (λ s. (key e.0, value e.1) ∷ s) (state_of-remove_entry key value cmp ordered es k)
    ])

pub value_at-state_of : {K V : Type 0} (key : K → List ℕ) (value : V → List ℕ) (cmp : K → K → Ordering)
    → ((a b : K) → cmp a b ≡ key_order (key a) (key b))
    → (es : List (K × V)) (k : K) → option_map value (lookup (is_at (cmp k)) es) ≡ value_at (state_of key value es)
    (key k)
value_at-state_of key value cmp ordered [] k = refl
value_at-state_of key value cmp ordered (e ∷ es) k =
    rw (← ordered k e.0) (elim (is_eq (cmp k e.0)) as (λ b. option_map value
    (cond b (Some e.1) (lookup (is_at (cmp k)) es)) ≡ cond b (Some (value e.1))
    (value_at (state_of key value es) (key k))) [
      | true ↦ refl
      | false ↦ value_at-state_of key value cmp ordered es k
    ])

pub state_of-above : {K V : Type 0} (key : K → List ℕ) (value : V → List ℕ) (cmp : K → K → Ordering)
    → ((a b : K) → cmp a b ≡ key_order (key a) (key b))
    → (es : List (K × V)) (k : K) → state_of key value (filter (λ e. range_contains cmp (Excluded k) Unbounded e.0)
    es) ≡ above (state_of key value es) (key k)
state_of-above key value cmp ordered [] k = refl
state_of-above key value cmp ordered (e ∷ es) k =
    rw (← ordered k e.0) (elim (is_lt (cmp k e.0)) as (λ b. state_of key value
    (cond (b && true) (e ∷ filter (λ x. range_contains cmp (Excluded k) Unbounded x.0) es)
    (filter (λ x. range_contains cmp (Excluded k) Unbounded x.0) es)) ≡ cond b
    ((key e.0, value e.1) ∷ above (state_of key value es) (key k)) (above (state_of key value es) (key k))) [
      | true ↦ ap (λ s. (key e.0, value e.1) ∷ s) (state_of-above key value cmp ordered es k)
      | false ↦ state_of-above key value cmp ordered es k
    ])

-- the first entry of the range above the key is next
pub next_key-above : {K V : Type 0} (key : K → List ℕ) (value : V → List ℕ) (cmp : K → K → Ordering)
    → ((a b : K) → cmp a b ≡ key_order (key a) (key b))
    → (es rest found : List (K × V)) (k : K) (first : K × V)
    → found ≡ filter (λ e. range_contains cmp (Excluded k) Unbounded e.0) es → found ≡ first ∷ rest
    → key first.0 ≡ next_key (state_of key value es) (key k)
next_key-above key value cmp ordered es rest found k first is starts =
    let whole : above (state_of key value es) (key k) ≡ state_of key value (first ∷ rest) = sym
    (state_of-above key value cmp ordered es k) ∙ ap (state_of key value) (sym is ∙ starts) in
    sym (ap (λ s. first_key (s ++ state_of key value es)) whole)

-- where none is above, the first entry is next
pub next_key-least : {K V : Type 0} (key : K → List ℕ) (value : V → List ℕ) (cmp : K → K → Ordering)
    → ((a b : K) → cmp a b ≡ key_order (key a) (key b))
    → (es found : List (K × V)) (k : K) (first : K × V) → found ≡ filter
    (λ e. range_contains cmp (Excluded k) Unbounded e.0) es → found ≡ [] → slice_get es 0 ≡ Some first
    → key first.0 ≡ next_key (state_of key value es) (key k)
next_key-least {K = K} {V = V} key value cmp ordered es found k first is none starts =
    let whole : above (state_of key value es) (key k) ≡ [] = sym (state_of-above key value cmp ordered es k)
    ∙ ap (state_of key value) (sym is ∙ none) in
    first_is es starts ∙ sym (ap (λ s. first_key (s ++ state_of key value es)) whole)
  where
    first_is : (es : List (K × V)) → slice_get es 0 ≡ Some first → key first.0 ≡ first_key (state_of key value es)
    first_is [] starts = cc
    first_is (e ∷ es) starts = ap (λ x. key (unwrap_or x first).0) (sym starts)

-- a look-up through a reference
pub option_map-copied : {V : Type 0} (value : V → List ℕ) (found : Option (Bor V)) (there : Option V)
    → option_copied found ≡ there → option_map (λ v. value v.now) found ≡ option_map value there
option_map-copied value None there is = ap (option_map value) is
option_map-copied value (Some v) there is = ap (option_map value) is

-- keys compare as their encodings do
pub bytes_eq-cmp : {K : Type 0} (key : K → List ℕ) (cmp : K → K → Ordering)
    → ((a b : K) → cmp a b ≡ key_order (key a) (key b))
    → (k l : K) (left right : List ℕ) (order : Ordering) (same : Bool) → key k ≡ left → key l ≡ right → order ≡ cmp k l
    → same ≡ is_eq order → same ≡ bytes_eq left right
bytes_eq-cmp key cmp ordered k l left right order same is_left is_right compares tells =
    tells ∙ (ap is_eq (compares ∙ ordered k l) ∙ (is_eq-slice_cmp (key k) (key l)
    ∙ (ap (λ x. bytes_eq x (key l)) is_left ∙ ap (bytes_eq left) is_right)))

-- a map of copies is seen as the same state
pub state_of-clone : {K V : Type 0} (key : K → List ℕ) (value : V → List ℕ) (C : K → K → Type 0) (D : V → V → Type 0)
    → ((k l : K) → C k l → key l ≡ key k) → ((v w : V) → D v w → value w ≡ value v)
    → (es fs : List (K × V)) → AllZip (λ p q. C p.0 q.0 × D p.1 q.1) es fs
    → state_of key value fs ≡ state_of key value es
state_of-clone key value C D keys values [] [] copied = refl
state_of-clone key value C D keys values [] (f ∷ fs) copied = absurd copied
state_of-clone key value C D keys values (e ∷ es) [] copied = absurd copied
state_of-clone key value C D keys values (e ∷ es) (f ∷ fs) copied =
    let first : key f.0 ≡ key e.0 = keys e.0 f.0 copied.0.0 in
    let second : value f.1 ≡ value e.1 = values e.1 f.1 copied.0.1 in
    let rest : state_of key value fs ≡ state_of key value es = state_of-clone key value C D keys values es fs
    copied.1 in
    rw (first, second, rest) refl

-- the map that a clone answers, if any
pub state_of-cloned : {K V E : Type 0} (key : K → List ℕ) (value : V → List ℕ) (C : K → K → Type 0) (D : V → V → Type 0)
    (Q : E → Type 0) → ((k l : K) → C k l → key l ≡ key k) → ((v w : V) → D v w → value w ≡ value v)
    → (state : BTreeMap K V) (r : Result (BTreeMap K V) E) → MatchResult r (λ n. IsClone C D state n) Q
    → IfOk r (λ copy. state_of key value copy.entries ≡ state_of key value state.entries)
state_of-cloned key value C D Q keys values state (Ok copy) copied = state_of-clone key value C D keys values
    state.entries copy.entries copied
state_of-cloned key value C D Q keys values state (Err e) copied = tt
