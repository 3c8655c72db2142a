-- Keys whose first bytes differ compare as the numbers do that these bytes spell.
use Rattle.std.proofs.Common.{◌≡◌, ◌≢◌, ℕ, suc, ◌+◌, ◌*◌, ◌<◌, List, []}
use Rattle.std.proofs.Common.{◌∷◌, ◌++◌, length, take, drop, get_or, refl, ap, sym, ◌∙◌, subst, arith}
use Rattle.std.specs.Cmp.{nat_cmp_is, ranks, ranked}
use Rattle.std.specs.Cmp.Lexicographic.{slice_cmp}
use Rattle.std.specs.Int.{w64, from_be_bytes}
use Rattle.std.specs.List.{AllByRecursion}
use Rattle.std.specs.Ordering.{nat_cmp, ordering_then, MatchOrdering}
use Rattle.std.specs.declared.cmp.Ordering.{Ordering}
use Rattle.std.specs.declared.cmp.Ordering.TheVariants.{Less, Equal, Greater}
use Rattle.std.proofs.lemmas.List.{length-take-le, take-append-drop, take_all}
use Rattle.std.proofs.lemmas.Nat.{mul-add-lt}
use Rattle.auth_store_parts.specs.Map.{key_order}
use Rattle.auth_store_parts.specs.Fronts.{IsFront}

-- what one more byte before these counts
abbrev weight : List ℕ → ℕ
weight [] = 1
weight (byte ∷ bytes) = weight bytes * 256

-- the number that bytes spell, the first of them the highest
abbrev worth : List ℕ → ℕ
worth [] = 0
worth (byte ∷ bytes) = byte * weight bytes + worth bytes

abbrev AreBytes : List ℕ → Type 0
AreBytes bytes = AllByRecursion (λ byte. byte < 256) bytes

worth-below : (bytes : List ℕ) → AreBytes bytes → worth bytes < weight bytes
worth-below [] small = omega arith
worth-below (byte ∷ bytes) small =
    mul-add-lt byte (weight bytes) (worth bytes) 256 small.0 (worth-below bytes small.1)

same_weight : (bytes other : List ℕ) → length bytes ≡ length other → weight bytes ≡ weight other
same_weight [] [] long = refl
same_weight [] (y ∷ other) long = absurd (omega (arith, long))
same_weight (x ∷ bytes) [] long = absurd (omega (arith, long))
same_weight (x ∷ bytes) (y ∷ other) long = ap (λ n. n * 256) (same_weight bytes other (omega (arith, long)))

lower : (w x y u v : ℕ) → u < w → x < y → x * w + u < y * w + v
lower w x y u v below less = omega (arith, mul-add-lt x w u y less below)

digits : (w x y u v : ℕ) (r : Ordering) → u < w → v < w → r ≡ nat_cmp u v
    → ordering_then (nat_cmp x y) r ≡ nat_cmp (x * w + u) (y * w + v)
digits w x y u v r below below_other is =
    nat_cmp_is (x * w + u) (y * w + v) (ordering_then (nat_cmp x y) r) (by (nat_cmp x y) (ranks x y))
  where
    rest : (o : Ordering) → x ≡ y → MatchOrdering o (u < v) (u ≡ v) (v < u)
        → MatchOrdering o (x * w + u < y * w + v) (x * w + u ≡ y * w + v) (y * w + v < x * w + u)
    rest Less same h = omega (arith, ap (λ n. n * w) same, h)
    rest Equal same h = omega (arith, ap (λ n. n * w) same, h)
    rest Greater same h = omega (arith, ap (λ n. n * w) same, h)

    by : (o : Ordering) → MatchOrdering o (x < y) (x ≡ y) (y < x)
        → MatchOrdering (ordering_then o r) (x * w + u < y * w + v) (x * w + u ≡ y * w + v) (y * w + v < x * w + u)
    by Less h = lower w x y u v below h
    by Equal h = rest r h (ranked u v r is)
    by Greater h = lower w y x v u below_other h

-- bytes of one length compare as their numbers do
worth_order : (bytes other : List ℕ) → length bytes ≡ length other → AreBytes bytes → AreBytes other
    → slice_cmp nat_cmp bytes other ≡ nat_cmp (worth bytes) (worth other)
worth_order [] [] long small small_other = refl
worth_order [] (y ∷ other) long small small_other = absurd (omega (arith, long))
worth_order (x ∷ bytes) [] long small small_other = absurd (omega (arith, long))
worth_order (x ∷ bytes) (y ∷ other) long small small_other =
    let as_long : length bytes ≡ length other = omega (arith, long) in
    let as_heavy : weight bytes ≡ weight other = same_weight bytes other as_long in
    digits (weight bytes) x y (worth bytes) (worth other) (slice_cmp nat_cmp bytes other) (worth-below bytes small.1)
    (subst (λ n. worth other < n) (sym as_heavy) (worth-below other small_other.1))
    (worth_order bytes other as_long small.1 small_other.1)
    ∙ ap (λ n. nat_cmp (x * weight bytes + worth bytes) (y * n + worth other)) as_heavy

-- where the first parts are of one length and differ, they decide
fronts : (front other rest more : List ℕ) → length front ≡ length other
    → slice_cmp nat_cmp (front ++ rest) (other ++ more)
    ≡ ordering_then (slice_cmp nat_cmp front other) (slice_cmp nat_cmp rest more)
fronts [] [] rest more long = refl
fronts [] (y ∷ other) rest more long = absurd (omega (arith, long))
fronts (x ∷ front) [] rest more long = absurd (omega (arith, long))
fronts (x ∷ front) (y ∷ other) rest more long =
    ap (ordering_then (nat_cmp x y)) (fronts front other rest more (omega (arith, long)))
    ∙ sym (joined (nat_cmp x y) (slice_cmp nat_cmp front other) (slice_cmp nat_cmp rest more))
  where
    joined : (a b c : Ordering) → ordering_then (ordering_then a b) c ≡ ordering_then a (ordering_then b c)
    joined Less b c = refl
    joined Equal b c = refl
    joined Greater b c = refl

-- the number of eight bytes is what the library reads
eight : (bytes : List ℕ) → length bytes ≡ 8 → from_be_bytes w64 bytes ≡ worth bytes
eight [] long = omega (arith, long)
eight (a ∷ []) long = omega (arith, long)
eight (a ∷ b ∷ []) long = omega (arith, long)
eight (a ∷ b ∷ c ∷ []) long = omega (arith, long)
eight (a ∷ b ∷ c ∷ d ∷ []) long = omega (arith, long)
eight (a ∷ b ∷ c ∷ d ∷ e ∷ []) long = omega (arith, long)
eight (a ∷ b ∷ c ∷ d ∷ e ∷ f ∷ []) long = omega (arith, long)
eight (a ∷ b ∷ c ∷ d ∷ e ∷ f ∷ g ∷ []) long = omega (arith, long)
eight (a ∷ b ∷ c ∷ d ∷ e ∷ f ∷ g ∷ h ∷ []) long = omega arith
eight (a ∷ b ∷ c ∷ d ∷ e ∷ f ∷ g ∷ h ∷ i ∷ bytes) long = omega (arith, long)

abbrev AreSmall : List ℕ → Type 0
AreSmall bytes = (i : ℕ) → get_or bytes i 0 < 256

each_byte : (bytes : List ℕ) → AreSmall bytes → AreBytes bytes
each_byte [] small = tt
each_byte (byte ∷ bytes) small = (small 0, each_byte bytes (λ i. small (suc i)))

decided : (o r : Ordering) (m n : ℕ) → (m ≢ n) → o ≡ nat_cmp m n → ordering_then o r ≡ o
decided Less r m n apart is = refl
decided Equal r m n apart is = absurd (apart (ranked m n Equal is))
decided Greater r m n apart is = refl

-- keys whose first eight bytes spell two numbers compare as these do
pub fronts_decide : (key other : List ℕ) (number other_number : ℕ) → IsFront key number → IsFront other other_number
    → (number ≢ other_number) → nat_cmp number other_number ≡ key_order key other
fronts_decide key other number other_number is is_other apart =
    let front = take 8 key in
    let other_front = take 8 other in
    let long : length front ≡ 8 = length-take-le 8 key is.enough in
    let long_other : length other_front ≡ 8 = length-take-le 8 other is_other.enough in
    let numbers : slice_cmp nat_cmp front other_front ≡ nat_cmp number other_number =
    worth_order front other_front (long ∙ sym long_other) (each_byte front is.small) (each_byte other_front is_other.small)
    ∙ (ap (λ n. nat_cmp n (worth other_front)) (sym (is.spelled ∙ eight front long))
    ∙ ap (nat_cmp number) (sym (is_other.spelled ∙ eight other_front long_other))) in
    let compared : key_order (front ++ drop 8 key) (other_front ++ drop 8 other) ≡ nat_cmp number other_number =
    fronts front other_front (drop 8 key) (drop 8 other) (long ∙ sym long_other)
    ∙ (decided (slice_cmp nat_cmp front other_front) (key_order (drop 8 key) (drop 8 other)) number other_number apart
    numbers ∙ numbers) in
    sym compared
    ∙ (ap (λ k. key_order k (other_front ++ drop 8 other)) (take-append-drop 8 key)
    ∙ ap (key_order key) (take-append-drop 8 other))

-- keys that are no more than their fronts, which spell one number, are alike
pub fronts_alike : (key other : List ℕ) (number other_number : ℕ) → IsFront key number → IsFront other other_number
    → number ≡ other_number → length key ≡ 8 → length other ≡ 8 → Equal ≡ key_order key other
fronts_alike key other number other_number is is_other same long long_other =
    let whole : take 8 key ≡ key = take_all 8 key (omega (arith, long)) in
    let whole_other : take 8 other ≡ other = take_all 8 other (omega (arith, long_other)) in
    let spelled : worth key ≡ number =
    ap worth (sym whole) ∙ sym (is.spelled ∙ eight (take 8 key) (ap length whole ∙ long)) in
    let spelled_other : worth other ≡ other_number =
    ap worth (sym whole_other) ∙ sym (is_other.spelled ∙ eight (take 8 other) (ap length whole_other ∙ long_other)) in
    nat_cmp_is (worth key) (worth other) Equal (spelled ∙ (same ∙ sym spelled_other))
    ∙ sym (worth_order key other (long ∙ sym long_other)
    (each_byte key (subst AreSmall whole is.small)) (each_byte other (subst AreSmall whole_other is_other.small)))
