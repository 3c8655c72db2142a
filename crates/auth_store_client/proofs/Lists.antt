-- Parts of lists.
use Rattle.std.proofs.Common.{◌≡◌, ℕ, zero, suc, ◌+◌, ◌<◌, List, [], ◌∷◌, ◌++◌}
use Rattle.std.proofs.Common.{length, map, take, drop, Option, Some, None, refl, sym, ◌∙◌, ap, arith}
use Rattle.std.proofs.lemmas.List.{map-append}
use Rattle.std.specs.Prelude.{slice_get}
use Rattle.std.specs.List.{AllByRecursion, range_with_len}
use Rattle.auth_store_client.specs.Claims.{StandFrom}

-- the list from a location on begins with what stands there
pub drop_is : {A : Type 0} (list : List A) (start : ℕ) (x : A) → slice_get list start ≡ Some x → drop start list ≡ x ∷ drop (suc start) list
drop_is {A = A} [] start x is = absurd (let e : ◌≡◌ {A = Option A} None (Some x) = is in cc)
drop_is (y ∷ list) zero x is = let e : Some y ≡ Some x = is in let same : y ≡ x = cc in ap (λ z. z ∷ list) same
drop_is (y ∷ list) (suc start) x is = drop_is list start x is

-- what stands there one by one stands there
pub stand : {A : Type 0} (list some : List A) (start : ℕ)
    → ((i : ℕ) → i < length some → slice_get list (start + i) ≡ slice_get some i) → StandFrom list start some
stand list [] start each = refl
stand list (x ∷ some) start each =
    let first : slice_get list start ≡ Some x = ap (slice_get list) (omega arith) ∙ each 0 (omega arith) in
    ap (take (suc (length some))) (drop_is list start x first)
    ∙ ap (λ xs. x ∷ xs) (stand list some (suc start)
    (λ i lt. ap (slice_get list) (omega arith) ∙ each (suc i) (omega (arith, lt))))

-- parts of a list
pub get_take : {A : Type 0} (n i : ℕ) (xs : List A) → i < n → slice_get (take n xs) i ≡ slice_get xs i
get_take zero i xs lt = absurd (omega (arith, lt))
get_take (suc n) i [] lt = refl
get_take (suc n) zero (x ∷ xs) lt = refl
get_take (suc n) (suc i) (x ∷ xs) lt = get_take n i xs (omega (arith, lt))

pub get_drop : {A : Type 0} (n i : ℕ) (xs : List A) → slice_get (drop n xs) i ≡ slice_get xs (n + i)
get_drop zero i xs = ap (slice_get xs) (omega arith)
get_drop (suc n) i [] = refl
get_drop (suc n) i (x ∷ xs) = let e : suc n + i ≡ suc (n + i) = omega arith in rw e (get_drop n i xs)

-- values over a range of numbers
pub get_range : {A : Type 0} (f : ℕ → A) (start count i : ℕ) → i < count
    → slice_get (map f (range_with_len start count)) i ≡ Some (f (start + i))
get_range f start zero i lt = absurd (omega (arith, lt))
get_range f start (suc count) zero lt = ap (λ n. Some (f n)) (omega arith)
get_range f start (suc count) (suc i) lt =
    get_range f (start + 1) count i (omega (arith, lt)) ∙ ap (λ n. Some (f n)) (omega arith)

pub length-range : {A : Type 0} (f : ℕ → A) (start count : ℕ) → length (map f (range_with_len start count)) ≡ count
length-range f start zero = refl
length-range f start (suc count) = ap suc (length-range f (start + 1) count)

-- a list is that of its values
pub by_values : {A : Type 0} (f : ℕ → A) (list : List A) (start : ℕ)
    → ((i : ℕ) → i < length list → slice_get list i ≡ Some (f (start + i))) → list ≡ map f (range_with_len start (length list))
by_values f [] start each = refl
by_values f (x ∷ list) start each =
    let e : Some x ≡ Some (f (start + 0)) = each 0 (omega arith) in
    let first : x ≡ f (start + 0) = cc in
    ap (λ y. y ∷ list) (first ∙ ap f (omega arith))
    ∙ ap (λ xs. f start ∷ xs) (by_values f list (start + 1)
    (λ i lt. each (suc i) (omega (arith, lt)) ∙ ap (λ n. Some (f n)) (omega arith)))

-- ---- what holds of each

pub each_so : {A : Type 0} (P Q : A → Type 0) → ((x : A) → P x → Q x) → (list : List A) → AllByRecursion P list → AllByRecursion Q list
each_so P Q so [] all = tt
each_so P Q so (x ∷ list) all = (so x all.0, each_so P Q so list all.1)

pub each_more : {A : Type 0} (P : A → Type 0) (list : List A) (x : A) → AllByRecursion P list → P x → AllByRecursion P (list ++ x ∷ [])
each_more P [] x all one = (one, tt)
each_more P (y ∷ list) x all one = (all.0, each_more P list x all.1 one)

-- what is made of each, of one more
pub made_more : {A B C : Type 0} (f : A → C) (g : B → C) (xs : List A) (x : A) (ys : List B) (y : B) → map f xs ≡ map g ys → f x ≡ g y
    → map f (xs ++ x ∷ []) ≡ map g (ys ++ y ∷ [])
made_more f g xs x ys y same last =
    map-append f xs (x ∷ []) ∙ (ap (λ zs. zs ++ f x ∷ []) same
    ∙ (ap (λ z. map g ys ++ z ∷ []) last ∙ sym (map-append g ys (y ∷ []))))
