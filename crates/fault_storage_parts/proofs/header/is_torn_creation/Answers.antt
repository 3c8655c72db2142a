use Rattle.std.proofs.Common.{◌≡◌, ◌∙◌, ◌<◌, ◌≤◌, ◌-◌, ◌≢◌, ◌^◌, ◌⊎◌, ℕ}
use Rattle.std.proofs.Common.{inl, inr, Bool, false, List, length, take, drop, get_or, ap, sym, subst, arith, IsTrue}
use Rattle.std.proofs.lemmas.Bool.{false≢true, ltb-true, lt-ltb}
use Rattle.std.proofs.lemmas.List.{take_rest}
use Rattle.fault_storage_parts.specs.Headers.{front, version_in, IsTornCreation}
use Rattle.fault_storage_parts.proofs.Torn.{Matches, torn-made, torn-some, torn-zeros, torn-short, zeros-from, zeros-behind}
use Rattle.fault_storage_parts.proofs.header.is_torn_creation.Goals as goal
use Rattle.fault_storage_parts.proofs.header.is_torn_creation.Goals.{
  then-matching-eq0-via-then-matching-eq0,
  then-matching-eq0-via-else-matching-eq0+then-not-are_zeros,
}

-- the match that is found is that of the front that the bytes say
found : (bytes front_bytes : List ℕ) (version k : ℕ) → version ≡ version_in bytes → front_bytes ≡ front version
    → (k ≤ length bytes) × (k ≤ 12)
    → ((i : ℕ) → i < k → get_or bytes i 0 ≡ get_or front_bytes i 0) → (k < length bytes → k < 12 → get_or bytes k 0 ≢ get_or front_bytes k 0)
    → Matches bytes (front (version_in bytes)) k
found bytes front_bytes version k said is within same all =
    let exact : front_bytes ≡ front (version_in bytes) = is ∙ ap front said in
    subst (λ (f : List ℕ). Matches bytes f k) exact (record { within = within.0; few = within.1; same = same; all = all })

-- no torn creation has another byte than zero behind the match
not_torn : (bytes : List ℕ) (k : ℕ) (zeros : Bool) → Matches bytes (front (version_in bytes)) k
    → (((i : ℕ) → i < length (take (length bytes - k) (drop k bytes)) → get_or (take (length bytes - k) (drop k bytes)) i 0 ≡ 0) → IsTrue zeros)
    → zeros ≡ false → IsTornCreation bytes → ⊥
not_torn bytes k zeros m tells other t =
    false≢true (sym other ∙ tells (subst (λ (l : List ℕ). (i : ℕ) → i < length l → get_or l i 0 ≡ 0) (sym (take_rest bytes k))
    (zeros-behind bytes k (torn-zeros bytes t k m))))

torn : (bytes : List ℕ) (k version : ℕ) → version ≡ version_in bytes → version < 2 ^ 16 → length bytes ≤ 4096 → (k ≡ 0 → ⊥)
    → Matches bytes (front (version_in bytes)) k
    → ((i : ℕ) → i < length (take (length bytes - k) (drop k bytes)) → get_or (take (length bytes - k) (drop k bytes)) i 0 ≡ 0)
    → (k < 12) ⊎ (length bytes < 4096) → IsTornCreation bytes
torn bytes k version said small few some m zeros =
    torn-made bytes k (omega (arith, said, small)) few (omega (arith, some)) m
    (zeros-from bytes k (subst (λ (l : List ℕ). (i : ℕ) → i < length l → get_or l i 0 ≡ 0) (take_rest bytes k) zeros))

pub returns-then-matching-eq0 : goal.returns-then-matching-eq0
returns-then-matching-eq0 c =
    let m = found c.args.bytes.now c.checked_front.result c.version_said.result c.matching-matching.result c.version_said.ensures c.checked_front.ensures
    c.matching-matching.ensures.within c.matching-matching.ensures.same c.matching-matching.ensures.all in (
      λ yes. absurd (false≢true yes),
      λ t. elim c.then-matching-eq0.branch [
        | then-matching-eq0-via-then-matching-eq0 w ↦
            let some : 0 < c.matching-matching.result = torn-some c.args.bytes.now t c.matching-matching.result m in
            absurd (omega (arith, some, w.if-matching-eq0.true))
        | then-matching-eq0-via-else-matching-eq0+then-not-are_zeros w ↦
            absurd (not_torn c.args.bytes.now c.matching-matching.result w.are_zeros.result m w.are_zeros.ensures.1 w.if-not-are_zeros.true t)
      ],
    )

pub returns-then-matching-lt12 : goal.returns-then-matching-lt12
returns-then-matching-lt12 c =
    let m = found c.args.bytes.now c.checked_front.result c.version_said.result c.matching-matching.result c.version_said.ensures c.checked_front.ensures
    c.matching-matching.ensures.within c.matching-matching.ensures.same c.matching-matching.ensures.all in (
      λ yes.
          torn c.args.bytes.now c.matching-matching.result c.version_said.result c.version_said.ensures (omega arith) (omega arith) c.if-matching-eq0.false m
          (c.are_zeros.ensures.0 c.if-not-are_zeros.false) (inl c.if-matching-lt12.true),
      λ t. lt-ltb c.matching-matching.result 12 c.if-matching-lt12.true,
    )

pub returns-else-matching-lt12 : goal.returns-else-matching-lt12
returns-else-matching-lt12 c =
    let m = found c.args.bytes.now c.checked_front.result c.version_said.result c.matching-matching.result c.version_said.ensures c.checked_front.ensures
    c.matching-matching.ensures.within c.matching-matching.ensures.same c.matching-matching.ensures.all in (
      λ yes.
          torn c.args.bytes.now c.matching-matching.result c.version_said.result c.version_said.ensures (omega arith) (omega arith) c.if-matching-eq0.false m
          (c.are_zeros.ensures.0 c.if-not-are_zeros.false) (inr (ltb-true (length c.args.bytes.now) 4096 yes)),
      λ t. lt-ltb (length c.args.bytes.now) 4096 (torn-short c.args.bytes.now t c.matching-matching.result (omega (arith, c.version_said.ensures)) m
          (omega arith)),
    )
