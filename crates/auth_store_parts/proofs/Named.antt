-- The names that a table of ranked keys gives locations, and how its code finds them.
use Rattle.std.proofs.Common.{◌≡◌, ℕ, zero, suc, ◌+◌, ◌-◌, ◌<◌, T, true, false, List, [], ◌∷◌, ◌++◌, map, length}
use Rattle.std.proofs.Common.{take, get_or, Option, None, Some, option_map, slice_get, refl, ap, sym, ◌∙◌, subst}
use Rattle.std.proofs.Common.{⊎_elim, arith}
use Rattle.std.proofs.Math.ListN.{set}
use Rattle.std.specs.List.{All}
use Rattle.std.specs.List.Sorted.{IsSortedBy, IsPermutation}
use Rattle.std.specs.Ordering.{is_lt}
use Rattle.std.specs.Prelude.{unwrap_or}
use Rattle.std.proofs.lemmas.Bool.{cases_eq}
use Rattle.std.proofs.lemmas.List.{get_or-take, length-map, map-append, map-id}
use Rattle.std.proofs.lemmas.List.Elements.{All-nil, All-cons, All-head, All-tail, All-push, All-map}
use Rattle.std.proofs.lemmas.List.Sorted.{All-permutation, IsPermutation-sym}
use Rattle.std.proofs.lemmas.Option.{slice_get_within, slice_get_read, slice_get-map}
use Rattle.state_ops.specs.Operation.{Operation, delete, update, ordered, commit_floor}
use Rattle.auth_store_parts.specs.Map.{Map, state_of, key_order}
use Rattle.auth_store_parts.specs.Places.{located_keys}
use Rattle.auth_store_parts.specs.Ranked.{Ranked, AreAscending, AreNamed, last_key, named, names_at}
use Rattle.auth_store_parts.proofs.Ranks.{AreAscending-push, last_key-push, get_pushed}

abbrev Names : Type 0
Names = List (Option (List ℕ))

-- an element that was read
pub read : {A : Type 0} (xs ys : List A) (n : ℕ) (x : A) → ys ≡ xs → n < length ys → x ≡ get_or ys n x
    → slice_get xs n ≡ Some x
read xs ys n x are within is =
    subst (λ (l : List _). slice_get l n ≡ Some x) are (slice_get_read ys (length ys) n x refl within is)

-- the key whose rank is known
pub rank_key : (keys : List (List ℕ)) (ranks : List ℕ) (location rank : ℕ) (key : List ℕ)
    → slice_get ranks location ≡ Some rank → slice_get (names_at keys ranks) location ≡ Some (Some key)
    → slice_get keys rank ≡ Some key
rank_key keys ranks location rank key at is =
    let both : Some (slice_get keys rank) ≡ Some (Some key) =
    ap (option_map (slice_get keys)) (sym at) ∙ (sym (slice_get-map (slice_get keys) ranks location) ∙ is) in
    cc

-- the key whose rank was read
pub rank_read : (keys : List (List ℕ)) (ranks : List ℕ) (location rank : ℕ) (key : List ℕ)
    → rank ≡ get_or ranks location rank → slice_get (names_at keys ranks) location ≡ Some (Some key)
    → slice_get keys rank ≡ Some key
rank_read keys ranks location rank key read is =
    let within : location < length ranks =
    subst (λ n. location < n) (length-map ranks (slice_get keys))
    (slice_get_within (names_at keys ranks) location (Some key) is) in
    rank_key keys ranks location rank key (slice_get_read ranks (length ranks) location rank refl within read) is

abbrev pub ranked : Names → Map → Ranked
ranked names places = record { names = names; places = places }

pub same_ranked : (names other : Names) (places later : Map) → names ≡ other → places ≡ later
    → ranked names places ≡ ranked other later
same_ranked names other places later one two =
    ap (λ n. ranked n places) one ∙ ap (λ p. ranked other p) two

-- the first of named operations
pub named_first : (names : Names) (start : ℕ) (operation : Operation) (later : List Operation) (key : List ℕ)
    → AreNamed names start (operation ∷ later) → named operation ≡ Some key
    → slice_get names start ≡ Some (Some key)
named_first names start operation later key are is =
    let here : start + 0 ≡ start = omega arith in
    subst (λ n. slice_get names n ≡ Some (Some key)) here (are 0 operation key refl is)

-- one of named operations
pub named_one : (names : Names) (start index : ℕ) (operations : List Operation) (one : Operation)
    → AreNamed names start operations → slice_get operations index ≡ Some one
    → AreNamed names (start + index) (one ∷ [])
named_one names start index operations one are at zero operation key here is =
    let place : start + index ≡ start + index + 0 = omega arith in
    subst (λ n. slice_get names n ≡ Some (Some key)) place (are index operation key (at ∙ here) is)
named_one names start index operations one are at (suc i) operation key here is = absurd (cc)

-- the last key of a list of the code
pub last_read : {A : Type 0} (key : A → List ℕ) (xs ys : List A) (x : A) → ys ≡ xs → Some x ≡ slice_get ys (length ys - 1)
    → last_key (map key xs) ≡ Some (key x)
last_read key xs ys x are is = subst (λ (l : List _). last_key (map key l) ≡ Some (key x)) are (at ys is)
  where
    at : (ys : List _) → Some x ≡ slice_get ys (length ys - 1) → last_key (map key ys) ≡ Some (key x)
    at [] is = absurd (cc)
    at (y ∷ []) is = ap (λ (o : Option _). Some (key (unwrap_or o y))) (sym is)
    at (y ∷ z ∷ ys) is =
        let end : length (y ∷ z ∷ ys) - 1 ≡ suc (length (z ∷ ys) - 1) = omega arith in
        at (z ∷ ys) (is ∙ ap (slice_get (y ∷ z ∷ ys)) end)

pub last_none : {A : Type 0} (key : A → List ℕ) (xs ys : List A) → ys ≡ xs → None ≡ slice_get ys (length ys - 1)
    → last_key (map key xs) ≡ None
last_none key xs ys are is = subst (λ (l : List _). last_key (map key l) ≡ None) are (at ys is)
  where
    at : (ys : List _) → None ≡ slice_get ys (length ys - 1) → last_key (map key ys) ≡ None
    at [] is = refl
    at (y ∷ []) is = absurd (cc)
    at (y ∷ z ∷ ys) is =
        let end : length (y ∷ z ∷ ys) - 1 ≡ suc (length (z ∷ ys) - 1) = omega arith in
        at (z ∷ ys) (is ∙ ap (slice_get (y ∷ z ∷ ys)) end)

-- the last key stands at the last rank
pub last_at : (keys : List (List ℕ)) (key : List ℕ) → last_key keys ≡ Some key → slice_get keys (length keys - 1) ≡ Some key
last_at [] key is = absurd (cc)
last_at (k ∷ []) key is = is
last_at (k ∷ l ∷ keys) key is =
    let end : length (k ∷ l ∷ keys) - 1 ≡ suc (length (l ∷ keys) - 1) = omega arith in
    ap (slice_get (k ∷ l ∷ keys)) end ∙ last_at (l ∷ keys) key is

last_within : {A : Type 0} (key : A → List ℕ) (xs : List A) (last : List ℕ) → last_key (map key xs) ≡ Some last
    → (d : A) → (0 < length xs) × (key (get_or xs (length xs - 1) d) ≡ last)
last_within key [] last is d = absurd (cc)
last_within key (x ∷ []) last is d = let e : key x ≡ last = cc in (omega arith, e)
last_within key (x ∷ y ∷ xs) last is d =
    let end : length (x ∷ y ∷ xs) - 1 ≡ suc (length (y ∷ xs) - 1) = omega arith in
    (omega arith, ap (λ n. key (get_or (x ∷ y ∷ xs) n d)) end ∙ (last_within key (y ∷ xs) last is d).1)

-- a key that a list of the code takes
module _ {K : Type 0} (key : K → List ℕ) (xs more : List K) (k : K) (are : more ≡ xs ++ k ∷ []) where
  grown : map key more ≡ map key xs ++ key k ∷ []
  grown = ap (map key) are ∙ map-append key xs (k ∷ [])

  pub ascending_above : (x : K) → AreAscending (map key xs) → last_key (map key xs) ≡ Some (key x)
      → is_lt (key_order (key x) (key k)) ≡ true → AreAscending (map key more)
  ascending_above x up last below =
      subst AreAscending (sym grown) (AreAscending-push (map key xs) (key k) up
      (λ l at. let e : key x ≡ l = cc in
      subst (λ m. T (is_lt (key_order m (key k)))) e (subst T (sym below) tt)))

  pub ascending_first : AreAscending (map key xs) → last_key (map key xs) ≡ None → AreAscending (map key more)
  ascending_first up none =
      subst AreAscending (sym grown) (AreAscending-push (map key xs) (key k) up (λ l at. absurd (cc)))

  pub last_pushed : last_key (map key more) ≡ Some (key k)
  last_pushed = ap last_key grown ∙ last_key-push (map key xs) (key k)

  pub kept_pushed : (rank : ℕ) (other : List ℕ) → slice_get (map key xs) rank ≡ Some other
      → slice_get (map key more) rank ≡ Some other
  kept_pushed rank other at = ap (λ l. slice_get l rank) grown ∙ get_pushed (map key xs) (key k) rank other at

-- the next key of a list in order is not below the last one that was passed
pub order_next : {K : Type 0} (key : K → List ℕ) (sorted passed : List (K × ℕ)) (e : K × ℕ) (last : List ℕ)
    → IsSortedBy (λ one other. is_lt (key_order (key one.0) (key other.0))) sorted
    → map (λ x. x) passed ≡ take (length passed) sorted → length passed < length sorted
    → e ≡ get_or sorted (length passed) e → last_key (map (λ x. key x.0) passed) ≡ Some last
    → is_lt (key_order (key e.0) last) ≡ false
order_next key sorted passed e last up are within is last_is =
    let n : ℕ = length passed in
    let found = last_within (λ (x : _ × ℕ). key x.0) passed last last_is e in
    let some : 0 < n = found.0 in
    let before : n - 1 < n = omega arith in
    let next : n - 1 + 1 ≡ n = omega arith in
    let here : get_or passed (n - 1) e ≡ get_or sorted (n - 1) e =
    ap (λ (l : List (_ × ℕ)). get_or l (n - 1) e) (sym (map-id passed) ∙ are)
    ∙ get_or-take n sorted (n - 1) e before in
    let last_here : key (get_or sorted (n - 1) e).0 ≡ last =
    ap (λ (x : _ × ℕ). key x.0) (sym here) ∙ found.1 in
    let e_here : key (get_or sorted (n - 1 + 1) e).0 ≡ key e.0 =
    ap (λ m. key (get_or sorted m e).0) next ∙ ap (λ (x : _ × ℕ). key x.0) (sym is) in
    ap (λ k. is_lt (key_order k last)) (sym e_here)
    ∙ (ap (λ l. is_lt (key_order (key (get_or sorted (n - 1 + 1) e).0) l)) (sym last_here)
    ∙ up (n - 1) e (omega arith) (omega arith))

written : (xs : List ℕ) (l r : ℕ) → l < length xs → slice_get (set xs l r) l ≡ Some r
written [] l r within = absurd (omega (arith, within))
written (x ∷ xs) zero r within = refl
written (x ∷ xs) (suc l) r within = written xs l r (omega (arith, within))

unwritten : (xs : List ℕ) (l r n : ℕ) → (n ≡ l → ⊥) → slice_get (set xs l r) n ≡ slice_get xs n
unwritten [] l r n other = refl
unwritten (x ∷ xs) zero r zero other = absurd (other refl)
unwritten (x ∷ xs) zero r (suc n) other = refl
unwritten (x ∷ xs) (suc l) r zero other = refl
unwritten (x ∷ xs) (suc l) r (suc n) other = unwritten xs l r n (λ e. other (ap suc e))

-- names after a rank was written
module _ {K : Type 0} (key : K → List ℕ) (given : Names) (keys more : List (List ℕ)) (ranks : List ℕ) (e : K × ℕ) (r : ℕ)
    (within : e.1 < length ranks) (at : slice_get more r ≡ Some (key e.0))
    (kept : (rank : ℕ) (other : List ℕ) → slice_get keys rank ≡ Some other → slice_get more rank ≡ Some other)
    (is : slice_get given e.1 ≡ Some (Some (key e.0))) where
  name_here : slice_get (names_at more (set ranks e.1 r)) e.1 ≡ Some (Some (key e.0))
  name_here =
      slice_get-map (slice_get more) (set ranks e.1 r) e.1
      ∙ (ap (option_map (slice_get more)) (written ranks e.1 r within) ∙ ap (λ o. Some o) at)

  known : (o : Option ℕ) (k : List ℕ) → option_map (slice_get keys) o ≡ Some (Some k)
      → option_map (slice_get more) o ≡ Some (Some k)
  known None k is = absurd (cc)
  known (Some rank) k is =
      let there : slice_get keys rank ≡ Some k = cc in ap (λ o. Some o) (kept rank k there)

  name_kept : (f : K × ℕ) → slice_get given f.1 ≡ Some (Some (key f.0))
      → slice_get (names_at keys ranks) f.1 ≡ Some (Some (key f.0))
      → slice_get (names_at more (set ranks e.1 r)) f.1 ≡ Some (Some (key f.0))
  name_kept f named had =
      ⊎_elim
      (λ same. ap (slice_get (names_at more (set ranks e.1 r))) same
      ∙ (name_here ∙ (sym is ∙ (ap (slice_get given) (sym same) ∙ named))))
      (λ other. slice_get-map (slice_get more) (set ranks e.1 r) f.1
      ∙ (ap (option_map (slice_get more)) (unwritten ranks e.1 r f.1 other)
      ∙ known (slice_get ranks f.1) (key f.0) (sym (slice_get-map (slice_get keys) ranks f.1) ∙ had)))
      (cases_eq f.1 e.1)

  pub names_more : (passed : List (K × ℕ))
      → All (λ f. slice_get given f.1 ≡ Some (Some (key f.0))) passed
      → All (λ f. slice_get (names_at keys ranks) f.1 ≡ Some (Some (key f.0))) passed
      → All (λ f. slice_get (names_at more (set ranks e.1 r)) f.1 ≡ Some (Some (key f.0))) (passed ++ e ∷ [])
  names_more passed named had =
      All-push (λ f. slice_get (names_at more (set ranks e.1 r)) f.1 ≡ Some (Some (key f.0))) passed e
      (λ n d below. name_kept (get_or passed n d) (named n d below) (had n d below)) name_here

-- what a place lists
abbrev location_of : List ℕ → ℕ
location_of [] = 0
location_of (n ∷ ns) = n

from_here : (P : List ℕ × List ℕ → Type 0) (start : ℕ) (key : List ℕ) → P (key, (start + 0) ∷ []) → P (key, start ∷ [])
from_here P start key p = let e : start + 0 ≡ start = omega arith in subst (λ n. P (key, n ∷ [])) e p

from_next : (P : List ℕ × List ℕ → Type 0) (start i : ℕ) (key : List ℕ) → P (key, (start + suc i) ∷ [])
    → P (key, (start + 1 + i) ∷ [])
from_next P start i key p = let e : start + suc i ≡ start + 1 + i = omega arith in subst (λ n. P (key, n ∷ [])) e p

-- what holds of each named key and its location holds of the located keys
all_located : (P : List ℕ × List ℕ → Type 0) (start : ℕ) (operations : List Operation)
    → ((index : ℕ) (operation : Operation) (key : List ℕ) → slice_get operations index ≡ Some operation
    → named operation ≡ Some key → P (key, (start + index) ∷ []))
    → All P (located_keys start operations)
all_located P start [] each = All-nil P
all_located P start (delete k ∷ later) each =
    All-cons P (k, start ∷ []) (located_keys (start + 1) later)
    (from_here P start k (each 0 (delete k) k refl refl))
    (all_located P (start + 1) later (λ i op key at is. from_next P start i key (each (suc i) op key at is)))
all_located P start (update (ordered k v next) ∷ later) each =
    All-cons P (k, start ∷ []) (located_keys (start + 1) later)
    (from_here P start k (each 0 (update (ordered k v next)) k refl refl))
    (all_located P (start + 1) later (λ i op key at is. from_next P start i key (each (suc i) op key at is)))
all_located P start (commit_floor m f ∷ later) each =
    all_located P (start + 1) later (λ i op key at is. from_next P start i key (each (suc i) op key at is))

-- and the other way
each_located : (P : List ℕ × List ℕ → Type 0) (start : ℕ) (operations : List Operation)
    → All P (located_keys start operations)
    → (index : ℕ) (operation : Operation) (key : List ℕ) → slice_get operations index ≡ Some operation
    → named operation ≡ Some key → P (key, (start + index) ∷ [])
each_located P start [] all i op key at is = absurd (cc)
each_located P start (first ∷ later) all (suc i) op key at is =
    let e : start + 1 + i ≡ start + suc i = omega arith in
    subst (λ n. P (key, n ∷ [])) e (each_located P (start + 1) later (rest first all) i op key at is)
  where
    rest : (first : Operation) → All P (located_keys start (first ∷ later)) → All P (located_keys (start + 1) later)
    rest (delete k) all = All-tail P (k, start ∷ []) (located_keys (start + 1) later) all
    rest (update (ordered k v next)) all = All-tail P (k, start ∷ []) (located_keys (start + 1) later) all
    rest (commit_floor m f) all = all
each_located P start (first ∷ later) all zero op key at is =
    let e : start ≡ start + 0 = omega arith in
    let same : first ≡ op = cc in
    subst (λ n. P (key, n ∷ [])) e (here first all (ap named same ∙ is))
  where
    at_key : (k : List ℕ) → All P ((k, start ∷ []) ∷ located_keys (start + 1) later) → k ≡ key → P (key, start ∷ [])
    at_key k all be =
        subst (λ x. P (x, start ∷ [])) be (All-head P (k, start ∷ []) (located_keys (start + 1) later) all)

    here : (first : Operation) → All P (located_keys start (first ∷ later)) → named first ≡ Some key → P (key, start ∷ [])
    here (delete k) all is = let be : k ≡ key = cc in at_key k all be
    here (update (ordered k v next)) all is = let be : k ≡ key = cc in at_key k all be
    here (commit_floor m f) all is = absurd (cc)

-- keys of the code with their locations, in any order
module _ {K : Type 0} (key : K → List ℕ) (operations : List Operation) (found sorted : List (K × ℕ))
    (are : state_of key (λ n. n ∷ []) found ≡ located_keys 0 operations) (moved : IsPermutation found sorted) where
  -- each has the name that its operation has
  pub sorted_named : All (λ e. slice_get (map named operations) e.1 ≡ Some (Some (key e.0))) sorted
  sorted_named = All-permutation Q found sorted moved (back found all)
    where
      P : List ℕ × List ℕ → Type 0
      P e = slice_get (map named operations) (location_of e.1) ≡ Some (Some e.0)

      Q : K × ℕ → Type 0
      Q e = slice_get (map named operations) e.1 ≡ Some (Some (key e.0))

      all : All P (state_of key (λ n. n ∷ []) found)
      all = subst (All P) (sym are) (all_located P 0 operations (λ i op k at is.
          let e : i ≡ 0 + i = omega arith in
          subst (λ n. slice_get (map named operations) n ≡ Some (Some k)) e
          (slice_get-map named operations i ∙ (ap (option_map named) at ∙ ap (λ o. Some o) is))))

      back : (es : List (K × ℕ)) → All P (state_of key (λ n. n ∷ []) es) → All Q es
      back [] all = All-nil Q
      back (e ∷ es) all =
          All-cons Q e es (All-head P (key e.0, e.1 ∷ []) (state_of key (λ n. n ∷ []) es) all)
          (back es (All-tail P (key e.0, e.1 ∷ []) (state_of key (λ n. n ∷ []) es) all))

  -- where each has its name, each operation has it
  pub named_sorted : (names : Names) → All (λ e. slice_get names e.1 ≡ Some (Some (key e.0))) sorted
      → AreNamed names 0 operations
  named_sorted names all = each_located P 0 operations (subst (All P) are
      (All-map P (λ e. (key e.0, e.1 ∷ [])) found
      (All-permutation Q sorted found (IsPermutation-sym found sorted moved) all)))
    where
      P : List ℕ × List ℕ → Type 0
      P e = slice_get names (location_of e.1) ≡ Some (Some e.0)

      Q : K × ℕ → Type 0
      Q e = slice_get names e.1 ≡ Some (Some (key e.0))
