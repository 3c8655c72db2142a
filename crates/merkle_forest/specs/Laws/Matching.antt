-- What is rebuilt equals what was hashed, or there is a collision.
use Rattle.std.proofs.Common.{◌≡◌, ◌⊎◌, inl, inr, ⊎_elim, ℕ, Bool, true, false, List, [], ◌∷◌, ◌++◌, length, take, drop}
use Rattle.std.proofs.Common.{map, Contains, bytes_eq, Decides, refl, sym, ◌∙◌, ap, subst, arith}
use Rattle.std.proofs.lemmas.List.Elements.{Contains-append_left, Contains-append_right}
use Rattle.std.proofs.lemmas.Slice.Eq.{bytes_eq-Decides}
use Rattle.std.proofs.Math.Seq.{take-append_seam, drop-append_seam}
use Rattle.merkle_forest.specs.Hashing.{Hash}
use Rattle.merkle_forest.specs.Made.{Site, Made, bytes, both, hashed, value, Strings, strings, Collision}

-- The first one has the form of the second one, up to what it gives as known bytes. Of two strings at one site that is
-- asked only where they are equal.
abbrev pub Matches : Hash → Made → Made → Type 0
Matches hash (bytes xs) h = Unit {0}
Matches hash (both a b) (both c d) =
    (length (value hash a) ≡ length (value hash c)) × Matches hash a c × Matches hash b d
Matches hash (hashed site more inner) (hashed other further within) =
    (site ≡ other) × (value hash inner ≡ value hash within → Matches hash inner within)
Matches hash c h = ⊥

-- what it gives as known are the bytes of the second one
abbrev pub Agrees : Hash → Made → Made → Type 0
Agrees hash (bytes xs) h = xs ≡ value hash h
Agrees hash (both a b) (both c d) = Agrees hash a c × Agrees hash b d
Agrees hash (hashed site more inner) (hashed other further within) =
    (value hash inner ≡ value hash within) × Agrees hash inner within
Agrees hash c h = ⊥

-- strings of the parts are strings of the whole
abbrev pub In : Strings → Strings → Type 0
In few many = (x : Site × List ℕ) → Contains few x → Contains many x

pub equal_or_not : (xs ys : List ℕ) → (xs ≡ ys) ⊎ (xs ≡ ys → ⊥)
equal_or_not xs ys = by (bytes_eq xs ys) (bytes_eq-Decides xs ys)
  where
    by : (answer : Bool) → Decides answer (xs ≡ ys) → (xs ≡ ys) ⊎ (xs ≡ ys → ⊥)
    by true decides = inl (decides.0 refl)
    by false decides = inr (λ e. let clash = decides.1 e in cc)

pub append_parts : (a b c d : List ℕ) → length a ≡ length c → a ++ b ≡ c ++ d → (a ≡ c) × (b ≡ d)
append_parts a b c d long same = (
  sym (take-append_seam a b) ∙ ap (take (length a)) same ∙ ap (λ n. take n (c ++ d)) long ∙ take-append_seam c d,
  sym (drop-append_seam a b) ∙ ap (drop (length a)) same ∙ ap (λ n. drop n (c ++ d)) long ∙ drop-append_seam c d,
)

in_left : (few more many : Strings) → In (few ++ more) many → In few many
in_left few more many within x here = within x (Contains-append_left few more x here)

in_right : (few more many : Strings) → In (few ++ more) many → In more many
in_right few more many within x here = within x (Contains-append_right few more x here)

in_tail : (s : Site × List ℕ) (few many : Strings) → In (s ∷ few) many → In few many
in_tail s few many within x here = within x (Contains-append_right (s ∷ []) few x here)

in_head : (s : Site × List ℕ) (few many : Strings) → In (s ∷ few) many → Contains many s
in_head s few many within = within s (0, omega arith, refl)

-- Where it has the form of what was hashed, and the same bytes, then all that it gives is what was hashed, or two
-- strings collide.
pub agrees_or_collides : (hash : Hash) (all given : Strings) (c h : Made) → In (strings hash h) all
    → In (strings hash c) given → Matches hash c h
    → value hash c ≡ value hash h
    → Agrees hash c h ⊎ Collision hash all given
agrees_or_collides hash all given (bytes xs) h in_h in_c matches same = inl same
agrees_or_collides hash all given (both a b) (both c d) in_h in_c matches same =
    let parts = append_parts (value hash a) (value hash b) (value hash c) (value hash d) matches.0 same in
    ⊎_elim
    (λ left. ⊎_elim (λ right. inl (left, right)) inr
    (agrees_or_collides hash all given b d (in_right (strings hash c) (strings hash d) all in_h)
    (in_right (strings hash a)
    (strings hash b) given in_c) matches.2 parts.1))
    inr
    (agrees_or_collides hash all given a c (in_left (strings hash c) (strings hash d) all in_h)
    (in_left (strings hash a)
    (strings hash b) given in_c) matches.1 parts.0)
agrees_or_collides hash all given (hashed site more inner) (hashed other further within) in_h in_c matches same =
    ⊎_elim
    (λ equal. ⊎_elim (λ agrees. inl (equal, agrees)) inr
    (agrees_or_collides hash all given inner within
    (in_right (map (λ s. (s, value hash within)) further) (strings hash within) all (in_tail (
      other,
      value hash within,
    ) (map (λ s.
    (s, value hash within)) further ++ strings hash within) all in_h))
    (in_right (map (λ s. (s, value hash inner)) more) (strings hash inner) given (in_tail (
      site,
      value hash inner,
    ) (map (λ s.
    (s, value hash inner)) more ++ strings hash inner) given in_c))
    (matches.1 equal) equal))
    (λ differ. inr record {
      site = site;
      one = value hash within;
      other = value hash inner;
      in_hashed = subst (λ s. Contains all (s, value hash within)) (sym matches.0)
          (in_head (other, value hash within) (map (λ s. (s, value hash within)) further
          ++ strings hash within) all in_h);
      in_rebuilt =
          in_head (site, value hash inner) (map (λ s. (s, value hash inner)) more ++ strings hash inner) given in_c;
      differ = λ e. differ (sym e);
      same = sym same;
    })
    (equal_or_not (value hash inner) (value hash within))
agrees_or_collides hash all given (both a b) (bytes xs) in_h in_c matches same = absurd matches
agrees_or_collides hash all given (both a b) (hashed s m i) in_h in_c matches same = absurd matches
agrees_or_collides hash all given (hashed s m i) (bytes xs) in_h in_c matches same = absurd matches
agrees_or_collides hash all given (hashed s m i) (both a b) in_h in_c matches same = absurd matches
