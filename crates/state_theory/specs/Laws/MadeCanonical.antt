-- What is rebuilt as a canonical root has its form.
use Rattle.std.proofs.Common.{◌≡◌, ℕ, ◌+◌, List, ◌++◌, length, Option, None, Some, option_map, refl, sym, ◌∙◌, ap}
use Rattle.std.proofs.Common.{arith, length-append}
use Rattle.merkle_forest.specs.Hashing.{Hash, number}
use Rattle.state_theory.specs.Canonical.{canonical_string}
use Rattle.merkle_forest.specs.Made.{Made, both, value}
use Rattle.merkle_forest.specs.Laws.Matching.{Matches, append_parts}
use Rattle.merkle_theory.specs.Laws.MadeTrees.{Sized}
use Rattle.state_theory.specs.MadeCanonical.{CanonicalParts, if_made, next_made, canonical_made}

module _ (hash : Hash) where
  -- the digest has 32 bytes
  abbrev pub SizedIf : Option Made → Type 0
  SizedIf None = Unit {0}
  SizedIf (Some made) = Sized hash 32 made

  abbrev pub SizedNext : Option (ℕ × Made) → Type 0
  SizedNext None = Unit {0}
  SizedNext (Some x) = Sized hash 32 x.1

  -- where both are there, the first has the form of the second
  abbrev pub MatchIf : Option Made → Option Made → Type 0
  MatchIf (Some c) (Some r) = Matches hash c r
  MatchIf c r = Unit {0}

  abbrev pub MatchNext : Option (ℕ × Made) → Option (ℕ × Made) → Type 0
  MatchNext (Some c) (Some r) = Matches hash c.1 r.1
  MatchNext c r = Unit {0}

  pub record IsSized (parts : CanonicalParts) : Type 0 where
    pub operations : Sized hash 32 parts.operations
    pub grafted : Sized hash 32 parts.grafted
    pub pending : SizedIf parts.pending_chunk
    pub partial : SizedNext parts.partial_chunk

  eight : (n : ℕ) → length (number n) ≡ 8
  eight n = refl

  -- how many bytes a digest takes that may be there
  abbrev room_if : Option Made → ℕ
  room_if None = 0
  room_if (Some made) = 32

  abbrev room_next : Option (ℕ × Made) → ℕ
  room_next None = 0
  room_next (Some x) = 40

  length_if : (c : Option Made) → SizedIf c → length (value hash (if_made c)) ≡ room_if c
  length_if None is = refl
  length_if (Some made) is = is

  length_next : (d : Option (ℕ × Made)) → SizedNext d → length (value hash (next_made d)) ≡ room_next d
  length_next None is = refl
  length_next (Some x) is = omega (arith, length-append (number x.0) (value hash x.1), eight x.0, is)

  rooms : (c r : Option Made) (d s : Option (ℕ × Made)) → SizedIf c → SizedIf r → SizedNext d → SizedNext s
      → value hash (if_made c) ++ value hash (next_made d) ≡ value hash (if_made r) ++ value hash (next_made s)
      → room_if c + room_next d ≡ room_if r + room_next s
  rooms c r d s sc sr sd ss same =
      omega (
        arith,
        ap length same,
        length-append (value hash (if_made c)) (value hash (next_made d)),
        length-append (value hash (if_made r)) (value hash (next_made s)),
        length_if c sc,
        length_if r sr,
        length_next d sd,
        length_next s ss,
      )

  -- the lengths tell which digests are there
  by_room : (c r : Option Made) (d s : Option (ℕ × Made)) → SizedIf c → SizedIf r
      → room_if c + room_next d ≡ room_if r + room_next s → MatchIf c r
      → MatchNext d s
      → Matches hash (both (if_made c) (next_made d)) (both (if_made r) (next_made s))
  by_room None None None None sc sr room m n = (refl, tt, tt)
  by_room None None (Some d) (Some s) sc sr room m n = (refl, tt, (refl, tt, n))
  by_room None None None (Some s) sc sr room m n = absurd (omega (arith, room))
  by_room None None (Some d) None sc sr room m n = absurd (omega (arith, room))
  by_room (Some c) (Some r) None None sc sr room m n = (sc ∙ sym sr, m, tt)
  by_room (Some c) (Some r) (Some d) (Some s) sc sr room m n = (sc ∙ sym sr, m, (refl, tt, n))
  by_room (Some c) (Some r) None (Some s) sc sr room m n = absurd (omega (arith, room))
  by_room (Some c) (Some r) (Some d) None sc sr room m n = absurd (omega (arith, room))
  by_room None (Some r) None None sc sr room m n = absurd (omega (arith, room))
  by_room None (Some r) (Some d) (Some s) sc sr room m n = absurd (omega (arith, room))
  by_room None (Some r) None (Some s) sc sr room m n = absurd (omega (arith, room))
  by_room None (Some r) (Some d) None sc sr room m n = absurd (omega (arith, room))
  by_room (Some c) None None None sc sr room m n = absurd (omega (arith, room))
  by_room (Some c) None (Some d) (Some s) sc sr room m n = absurd (omega (arith, room))
  by_room (Some c) None None (Some s) sc sr room m n = absurd (omega (arith, room))
  by_room (Some c) None (Some d) None sc sr room m n = absurd (omega (arith, room))

  pub canonical_matches : (c r : CanonicalParts) → IsSized c → IsSized r → Matches hash c.operations r.operations
      → Matches hash c.grafted r.grafted
      → MatchIf c.pending_chunk r.pending_chunk → MatchNext c.partial_chunk r.partial_chunk
      → Matches hash (canonical_made c) (canonical_made r)
  canonical_matches c r sc sr ops grafted pending partial = (
    refl,
    λ same.
        let first = append_parts (value hash c.operations) (value hash c.grafted
        ++ (value hash (if_made c.pending_chunk) ++ value hash
        (next_made c.partial_chunk)))
        (value hash r.operations) (value hash r.grafted
        ++ (value hash (if_made r.pending_chunk) ++ value hash (next_made r.partial_chunk)))
        (sc.operations ∙ sym sr.operations) same in
        let second = append_parts (value hash c.grafted) (value hash (if_made c.pending_chunk)
        ++ value hash (next_made c.partial_chunk))
        (value hash r.grafted) (value hash (if_made r.pending_chunk)
        ++ value hash (next_made r.partial_chunk)) (sc.grafted ∙ sym sr.grafted) first.1 in (
          sc.operations ∙ sym sr.operations,
          ops,
          (
            sc.grafted ∙ sym sr.grafted,
            grafted,
            by_room c.pending_chunk r.pending_chunk c.partial_chunk r.partial_chunk sc.pending sr.pending
                (rooms c.pending_chunk r.pending_chunk c.partial_chunk r.partial_chunk sc.pending sr.pending sc.partial
                sr.partial second.1) pending partial,
          ),
        ),
  )

-- the digests that there are
abbrev pub digest_if : Hash → Option Made → Option (List ℕ)
digest_if hash pending = option_map (value hash) pending

-- it is the hash of the canonical string
pub value_canonical : (hash : Hash) (operations grafted : Made) (pending : Option Made)
    (next : ℕ) (partial : Option Made)
    → value hash (canonical_made (record {
      operations = operations;
      grafted = grafted;
      pending_chunk = pending;
      partial_chunk = option_map (λ made.
          (next, made)) partial;
    }))
    ≡ hash (canonical_string (value hash operations) (value hash grafted) (digest_if hash pending) next
    (digest_if hash partial))
unfolding canonical_string
value_canonical hash operations grafted None next None = refl
value_canonical hash operations grafted None next (Some b) = refl
value_canonical hash operations grafted (Some a) next None = refl
value_canonical hash operations grafted (Some a) next (Some b) = refl
