-- Required chunks: the three that there may be, in order.
use Rattle.std.proofs.Common.{◌≡◌, ◌⊎◌, inl, inr, ⊎_elim, ◌↔◌, ℕ, zero}
use Rattle.std.proofs.Common.{suc, ◌+◌, ◌/◌, ◌%◌, ◌<◌, ◌≤◌, cond, ltb, Bool}
use Rattle.std.proofs.Common.{true, false, List, [], ◌∷◌, ◌++◌, Option, None, Some, refl, sym, ◌∙◌, ap, subst, arith}
use Rattle.std.specs.Prelude.{Contains, slice_index, IsSomeAnd}
use Rattle.std.specs.List.Sorted.{IsStrictlyIncreasing}
use Rattle.std.proofs.lemmas.Bool.{cases_lt, ltb-true, lt-ltb}
use Rattle.std.proofs.lemmas.List.Elements.{Contains-append_left, Contains-append_right, Contains-append_cases}
use Rattle.state_proofs.specs.RequiredCode.{as_list, option_below}
use Rattle.state_theory.specs.Laws.ChunkCounts.{index-few}
use Rattle.state_theory.proofs.StateParts.{left_over}

-- each of three that may be there is below the next ones
abbrev pub Ordered : Option ℕ → Option ℕ → Option ℕ → Type 0
Ordered None None None = Unit {0}
Ordered (Some a) None None = Unit {0}
Ordered None (Some b) None = Unit {0}
Ordered None None (Some c) = Unit {0}
Ordered (Some a) (Some b) None = a < b
Ordered (Some a) None (Some c) = a < c
Ordered None (Some b) (Some c) = b < c
Ordered (Some a) (Some b) (Some c) = (a < b) × (b < c)

at_zero : (a b : ℕ) → a < b → (k : ℕ) → k + 1 < 2 → slice_index (a ∷ b ∷ []) k < slice_index (a ∷ b ∷ []) (k + 1)
at_zero a b lt zero few = lt
at_zero a b lt (suc k) few = absurd (omega (arith, few))

at_two : (a b c : ℕ) → a < b → b < c → (k : ℕ) → k + 1 < 3 → slice_index (a ∷ b ∷ c ∷ []) k < slice_index (a ∷ b ∷ c ∷ []) (k + 1)
at_two a b c one two zero few = one
at_two a b c one two (suc zero) few = two
at_two a b c one two (suc (suc k)) few = absurd (omega (arith, few))

pub increasing : (q p r : Option ℕ) → Ordered q p r → IsStrictlyIncreasing (as_list q ++ (as_list p ++ as_list r))
increasing None None None ordered k few = absurd (omega (arith, few))
increasing (Some a) None None ordered k few = absurd (omega (arith, few))
increasing None (Some b) None ordered k few = absurd (omega (arith, few))
increasing None None (Some c) ordered k few = absurd (omega (arith, few))
increasing (Some a) (Some b) None ordered k few = at_zero a b ordered k few
increasing (Some a) None (Some c) ordered k few = at_zero a c ordered k few
increasing None (Some b) (Some c) ordered k few = at_zero b c ordered k few
increasing (Some a) (Some b) (Some c) ordered k few = at_two a b c ordered.0 ordered.1 k few

-- what the list holds
held_one : (o : Option ℕ) (i : ℕ) → Contains (as_list o) i → o ≡ Some i
held_one None i it = absurd (omega (arith, it.1))
held_one (Some n) i (zero, lt, is) = ap (λ k. Some k) is
held_one (Some n) i (suc k, lt, is) = absurd (omega (arith, lt))

one_held : (o : Option ℕ) (i : ℕ) → o ≡ Some i → Contains (as_list o) i
one_held None i is = absurd (let e : ◌≡◌ {A = Option ℕ} None (Some i) = is in cc)
one_held (Some n) i is = (0, omega arith, (let e : ◌≡◌ {A = Option ℕ} (Some n) (Some i) = is in cc))

held : (q p r : Option ℕ) (i : ℕ) → Contains (as_list q ++ (as_list p ++ as_list r)) i → (q ≡ Some i) ⊎ ((p ≡ Some i) ⊎ (r ≡ Some i))
held q p r i it =
    ⊎_elim (λ first. inl (held_one q i first))
    (λ rest. inr (⊎_elim (λ second. inl (held_one p i second)) (λ third. inr (held_one r i third))
    (Contains-append_cases (as_list p) (as_list r) i rest)))
    (Contains-append_cases (as_list q) (as_list p ++ as_list r) i it)

first_held : (q p r : Option ℕ) (i : ℕ) → q ≡ Some i → Contains (as_list q ++ (as_list p ++ as_list r)) i
first_held q p r i is = Contains-append_left (as_list q) (as_list p ++ as_list r) i (one_held q i is)

second_held : (q p r : Option ℕ) (i : ℕ) → p ≡ Some i → Contains (as_list q ++ (as_list p ++ as_list r)) i
second_held q p r i is =
    Contains-append_right (as_list q) (as_list p ++ as_list r) i (Contains-append_left (as_list p) (as_list r) i (one_held p i is))

third_held : (q p r : Option ℕ) (i : ℕ) → r ≡ Some i → Contains (as_list q ++ (as_list p ++ as_list r)) i
third_held q p r i is =
    Contains-append_right (as_list q) (as_list p ++ as_list r) i (Contains-append_right (as_list p) (as_list r) i (one_held r i is))

-- a test chooses whether it is there
chosen : (test : Bool) (n i : ℕ) → cond test (Some n) None ≡ Some i → (test ≡ true) × (i ≡ n)
chosen true n i is = (refl, (let e : ◌≡◌ {A = Option ℕ} (Some n) (Some i) = is in cc))
chosen false n i is = absurd (let e : ◌≡◌ {A = Option ℕ} None (Some i) = is in cc)

below_is : (q : Option ℕ) (bound i : ℕ) → option_below q bound ≡ Some i → q ≡ Some i
below_is None bound i is = is
below_is (Some n) bound i is = ap (λ k. Some k) (sym (chosen (ltb n bound) n i is).1)

below_held : (q : Option ℕ) (bound i : ℕ) → q ≡ Some i → i < bound → option_below q bound ≡ Some i
below_held None bound i is lt = is
below_held (Some n) bound i is lt =
    let same : n ≡ i = (let e : ◌≡◌ {A = Option ℕ} (Some n) (Some i) = is in cc) in
    ap (λ b. cond b (Some n) None) (lt-ltb n bound (omega (arith, same, lt))) ∙ is

-- the chunk of the location that is asked for
abbrev pub IsQueried : ℕ → ℕ → Option ℕ → Option ℕ → Type 0
IsQueried chunk_bits bits None None = Unit {0}
IsQueried chunk_bits bits (Some l) (Some q) = (q ≡ l / chunk_bits) × (l < bits)
IsQueried chunk_bits bits location queried = ⊥

queried_is : (chunk_bits bits : ℕ) (location queried : Option ℕ) (i : ℕ) → IsQueried chunk_bits bits location queried → queried ≡ Some i
    → IsSomeAnd location (λ l. i ≡ l / chunk_bits)
queried_is chunk_bits bits None None i it is = absurd (let e : ◌≡◌ {A = Option ℕ} None (Some i) = is in cc)
queried_is chunk_bits bits (Some l) (Some q) i it is = (let e : ◌≡◌ {A = Option ℕ} (Some q) (Some i) = is in
    let same : q ≡ i = cc in sym same ∙ it.0)
queried_is chunk_bits bits None (Some q) i it is = absurd it
queried_is chunk_bits bits (Some l) None i it is = absurd it

record IsAsked (chunk_bits bits i : ℕ) (queried : Option ℕ) : Type 0 where
  location : ℕ
  at : i ≡ location / chunk_bits
  within : location < bits
  held : queried ≡ Some i

asked_is : (chunk_bits bits : ℕ) (location queried : Option ℕ) (i : ℕ) → IsQueried chunk_bits bits location queried
    → IsSomeAnd location (λ l. i ≡ l / chunk_bits) → IsAsked chunk_bits bits i queried
asked_is chunk_bits bits None queried i it asked = absurd asked
asked_is chunk_bits bits (Some l) None i it asked = absurd it
asked_is chunk_bits bits (Some l) (Some q) i it asked =
    record { location = l; at = asked; within = it.1; held = ap (λ k. Some k) (it.0 ∙ sym asked) }

-- the chunk of the location is below those that are not graftable, or one of these
asked_held : (chunk_bits bits graftable : ℕ) (queried : Option ℕ) (i : ℕ) → 0 < chunk_bits → bits / chunk_bits ≤ graftable + 1
    → IsAsked chunk_bits bits i queried
    → Contains (as_list (option_below queried graftable) ++ (as_list (cond (ltb graftable (bits / chunk_bits)) (Some graftable) None)
    ++ as_list (cond (ltb 0 (bits % chunk_bits)) (Some (bits / chunk_bits)) None))) i
asked_held chunk_bits bits graftable queried i some one by =
    let complete : ℕ = bits / chunk_bits in
    let q : Option ℕ = option_below queried graftable in
    let p : Option ℕ = cond (ltb graftable complete) (Some graftable) None in
    let r : Option ℕ = cond (ltb 0 (bits % chunk_bits)) (Some complete) None in
    let low : i ≤ bits / chunk_bits = omega (arith, by.at, index-few bits chunk_bits by.location some by.within) in
    elim (cases_lt i graftable) [
      | inl lt ↦ first_held q p r i (below_held queried graftable i by.held lt)
      | inr above ↦ (elim (cases_lt i (bits / chunk_bits)) [
        | inl lt ↦ (let here : graftable < bits / chunk_bits = omega (arith, lt, above) in
            let same : graftable ≡ i = omega (arith, lt, above, one) in
            second_held q p r i (ap (λ b. cond b (Some graftable) None) (lt-ltb graftable complete here) ∙ ap (λ k. Some k) same))
        | inr past ↦ (let left : 0 < bits % chunk_bits =
            left_over by.location bits chunk_bits by.within (omega (arith, past, by.at)) in
            let same : bits / chunk_bits ≡ i = omega (arith, low, past) in
            third_held q p r i
            (ap (λ b. cond b (Some complete) None) (lt-ltb 0 (bits % chunk_bits) left) ∙ ap (λ k. Some k) same))
      ])
    ]

-- the list holds the chunks that are needed
pub needed_exactly : (chunk_bits bits graftable : ℕ) (location queried : Option ℕ) (i : ℕ) → 0 < chunk_bits
    → bits / chunk_bits ≤ graftable + 1 → IsQueried chunk_bits bits location queried
    → Contains (as_list (option_below queried graftable) ++ (as_list (cond (ltb graftable (bits / chunk_bits)) (Some graftable) None)
    ++ as_list (cond (ltb 0 (bits % chunk_bits)) (Some (bits / chunk_bits)) None))) i
    ↔ (((0 < bits % chunk_bits) × (i ≡ bits / chunk_bits))
    ⊎ (((graftable < bits / chunk_bits) × (i ≡ graftable)) ⊎ IsSomeAnd location (λ l. i ≡ l / chunk_bits)))
needed_exactly chunk_bits bits graftable location queried i some one it =
    let complete : ℕ = bits / chunk_bits in
    let q : Option ℕ = option_below queried graftable in
    let p : Option ℕ = cond (ltb graftable complete) (Some graftable) None in
    let r : Option ℕ = cond (ltb 0 (bits % chunk_bits)) (Some complete) None in (
      λ contains. ⊎_elim
          (λ first. inr (inr (queried_is chunk_bits bits location queried i it (below_is queried graftable i first))))
          (λ rest. ⊎_elim
          (λ second. (let by = chosen (ltb graftable complete) graftable i second in inr (inl (ltb-true graftable complete by.0, by.1))))
          (λ third. (let by = chosen (ltb 0 (bits % chunk_bits)) complete i third in inl (ltb-true 0 (bits % chunk_bits) by.0, by.1))) rest)
          (held q p r i contains),
      λ needed. ⊎_elim
          (λ partial. third_held q p r i
          (ap (λ b. cond b (Some complete) None) (lt-ltb 0 (bits % chunk_bits) partial.0) ∙ ap (λ k. Some k) (sym partial.1)))
          (λ rest. ⊎_elim
          (λ pending. second_held q p r i
          (ap (λ b. cond b (Some graftable) None) (lt-ltb graftable complete pending.0) ∙ ap (λ k. Some k) (sym pending.1)))
          (λ asked. asked_held chunk_bits bits graftable queried i some one (asked_is chunk_bits bits location queried i it asked)) rest) needed,
    )

-- how it is known which chunk has the location's bit
pub asked_none : (chunk_bits bits : ℕ) (location queried : Option ℕ) → location ≡ None → queried ≡ None
    → IsQueried chunk_bits bits location queried
asked_none chunk_bits bits location queried one other = rw (one, other) tt

pub asked_some : (chunk_bits bits l q : ℕ) (location queried : Option ℕ) → location ≡ Some l → queried ≡ Some q
    → q ≡ l / chunk_bits → l < bits
    → IsQueried chunk_bits bits location queried
asked_some chunk_bits bits l q location queried one other at within = rw (one, other) (at, within)

-- the same of what the code holds
pub needed_by : (chunk_bits bits graftable found complete left : ℕ) (location queried below p r : Option ℕ) (i : ℕ) → 0 < chunk_bits
    → below ≡ option_below queried found → p ≡ cond (ltb found complete) (Some found) None → r ≡ cond (ltb 0 left) (Some complete) None
    → complete ≡ bits / chunk_bits → left ≡ bits % chunk_bits → found ≡ graftable → complete ≤ graftable + 1
    → IsQueried chunk_bits bits location queried
    → Contains (as_list below ++ (as_list p ++ as_list r)) i
    ↔ (((0 < bits % chunk_bits) × (i ≡ bits / chunk_bits))
    ⊎ (((graftable < bits / chunk_bits) × (i ≡ graftable)) ⊎ IsSomeAnd location (λ l. i ≡ l / chunk_bits)))
needed_by chunk_bits bits graftable found complete left location queried below p r i some one two three full part same few it =
    let one' : below ≡ option_below queried graftable = one ∙ ap (option_below queried) same in
    let two' : p ≡ cond (ltb graftable (bits / chunk_bits)) (Some graftable) None =
    two ∙ ap (λ k. cond (ltb k complete) (Some k) None) same ∙ ap (λ k. cond (ltb graftable k) (Some graftable) None) full in
    let three' : r ≡ cond (ltb 0 (bits % chunk_bits)) (Some (bits / chunk_bits)) None =
    three ∙ ap (λ k. cond (ltb 0 k) (Some complete) None) part ∙ ap (λ k. cond (ltb 0 (bits % chunk_bits)) (Some k) None) full in
    let whole : as_list below ++ (as_list p ++ as_list r)
    ≡ as_list (option_below queried graftable) ++ (as_list (cond (ltb graftable (bits / chunk_bits)) (Some graftable) None)
    ++ as_list (cond (ltb 0 (bits % chunk_bits)) (Some (bits / chunk_bits)) None)) =
    ap (λ x. as_list x ++ (as_list p ++ as_list r)) one'
    ∙ ap (λ x. as_list (option_below queried graftable) ++ (as_list x ++ as_list r)) two'
    ∙ ap (λ x. as_list (option_below queried graftable) ++ (as_list (cond (ltb graftable (bits / chunk_bits)) (Some graftable) None) ++ as_list x))
    three' in
    let Exactly : List ℕ → Type 0 = λ xs. Contains xs i
    ↔ (((0 < bits % chunk_bits) × (i ≡ bits / chunk_bits))
    ⊎ (((graftable < bits / chunk_bits) × (i ≡ graftable)) ⊎ IsSomeAnd location (λ l. i ≡ l / chunk_bits))) in
    subst Exactly (sym whole) (needed_exactly chunk_bits bits graftable location queried i some (omega (arith, few, full)) it)
