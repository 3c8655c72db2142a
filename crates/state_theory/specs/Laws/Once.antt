-- The bytes of a proof stand for one proof.
use Rattle.std.proofs.Common.{◌≡◌, ℕ, ◌^◌, ◌<◌, List, [], ◌∷◌, ◌++◌, length, Option, Some, None, refl, sym, ◌∙◌, ap}
use Rattle.std.proofs.Common.{append_assoc, arith}
use Rattle.std.specs.Prelude.{IfSome}
use Rattle.std.specs.List.{All, flat_map}
use Rattle.std.proofs.lemmas.List.Elements.{All-head, All-tail}
use Rattle.merkle_forest.specs.Codec.{option_encoding, after_fixed, after_option}
use Rattle.merkle_forest.specs.Laws.Codec.{fixed_again, option_again, one_encoding}
use Rattle.merkle_forest.specs.Laws.Varint.{after_varint_again, varint_same}
use Rattle.merkle_forest.specs.Lists.{list_encoding}
use Rattle.merkle_forest.specs.Varint.{varint, after_varint}
use Rattle.state_theory.specs.Encoded.{range_proof_encoding, key_value_proof_encoding, FitsRange, Fits}
use Rattle.state_theory.specs.Verified.{RangeParts, Parts}

within_all : (v : Option (List ℕ)) → IfSome v (λ d. Unit {0})
within_all None = tt
within_all (Some d) = tt

pub numbers_once : (m n : ℕ) (x y : List ℕ) → m < 2 ^ 64 → n < 2 ^ 64
    → varint m ++ x ≡ varint n ++ y → (m ≡ n) × (x ≡ y)
numbers_once m n x y low high same =
    let it = one_encoding varint after_varint (λ k. k < 2 ^ 64) after_varint_again m n x y low high same in
    (varint_same m n low high it.0, it.1)

pub fixed_once : (size : ℕ) (d e x y : List ℕ) → length d ≡ size → length e ≡ size → d ++ x ≡ e ++ y → (d ≡ e) × (x ≡ y)
fixed_once size d e x y low high same =
    one_encoding (λ b. b) (after_fixed size) (λ b. length b ≡ size) (fixed_again size) d e x y low high same

digests_once : (size : ℕ) (ds es : List (List ℕ)) (x y : List ℕ) → length ds ≡ length es
    → All (λ d. length d ≡ size) ds → All (λ d. length d ≡ size) es
    → flat_map (λ d. d) ds ++ x ≡ flat_map (λ d. d) es ++ y → (ds ≡ es) × (x ≡ y)
digests_once size [] [] x y count low high same = (refl, same)
digests_once size [] (e ∷ es) x y count low high same = absurd (omega arith)
digests_once size (d ∷ ds) [] x y count low high same = absurd (omega arith)
digests_once size (d ∷ ds) (e ∷ es) x y count low high same =
    let Sized : List ℕ → Type 0 = λ b. length b ≡ size in
    let whole : d ++ (flat_map (λ b. b) ds ++ x) ≡ e ++ (flat_map (λ b. b) es ++ y) =
    sym (append_assoc d (flat_map (λ b. b) ds) x) ∙ same ∙ append_assoc e (flat_map (λ b. b) es) y in
    let first = fixed_once size d e (flat_map (λ b. b) ds ++ x) (flat_map (λ b. b) es ++ y) (All-head Sized d ds low)
    (All-head Sized e es high) whole in
    let rest = digests_once size ds es x y (omega (arith, count)) (All-tail Sized d ds low)
    (All-tail Sized e es high) first.1 in
    (ap (λ b. b ∷ ds) first.0 ∙ ap (λ bs. e ∷ bs) rest.0, rest.1)

pub lists_once : (size : ℕ) (ds es : List (List ℕ)) (x y : List ℕ) → length ds < 2 ^ 64 → length es < 2 ^ 64
    → All (λ d. length d ≡ size) ds → All (λ d. length d ≡ size) es
    → list_encoding (λ d. d) ds ++ x ≡ list_encoding (λ d. d) es ++ y → (ds ≡ es) × (x ≡ y)
lists_once size ds es x y few small low high same =
    let whole : varint (length ds) ++ (flat_map (λ d. d) ds ++ x) ≡ varint (length es) ++ (flat_map (λ d. d) es ++ y) =
    sym (append_assoc (varint (length ds)) (flat_map (λ d. d) ds) x) ∙ same
    ∙ append_assoc (varint (length es)) (flat_map (λ d. d) es) y in
    let count = numbers_once (length ds) (length es) (flat_map (λ d. d) ds ++ x)
    (flat_map (λ d. d) es ++ y) few small whole in
    digests_once size ds es x y count.0 low high count.1

pub options_same : (p q : Option (List ℕ)) → option_encoding (λ d. d) p ≡ option_encoding (λ d. d) q → p ≡ q
options_same None None same = refl
options_same None (Some q) same = absurd cc
options_same (Some p) None same = absurd cc
options_same (Some p) (Some q) same = let inner : p ≡ q = cc in ap (λ d. Some d) inner

pub options_once : (size : ℕ) (p q : Option (List ℕ)) (x y : List ℕ) → IfSome p (λ d. length d ≡ size)
    → IfSome q (λ d. length d ≡ size) → option_encoding (λ d. d) p ++ x ≡ option_encoding (λ d. d) q ++ y
    → (p ≡ q) × (x ≡ y)
options_once size p q x y low high same =
    let it = one_encoding (option_encoding (λ d. d)) (after_option (after_fixed size))
    (λ v. IfSome v (λ d. length d ≡ size))
    (λ v rest is. option_again (λ d. d) (after_fixed size) (λ d. length d ≡ size) (λ d. Unit {0})
    (λ d more sized within. fixed_again size d more sized) v rest is (within_all v)) p q x y low high same in
    (options_same p q it.0, it.1)

range_same : (p q : RangeParts) → p.leaves ≡ q.leaves → p.inactive ≡ q.inactive → p.digests ≡ q.digests
    → p.pending ≡ q.pending
    → p.partial ≡ q.partial → p.operations_root ≡ q.operations_root → p ≡ q
range_same p q c d e f g h =
    let made : ℕ → ℕ → List (List ℕ) → Option (List ℕ) → Option (List ℕ) → List ℕ → RangeParts =
    λ leaves inactive digests pending partial root. record {
      leaves = leaves;
      inactive = inactive;
      digests = digests;
      pending = pending;
      partial = partial;
      operations_root = root;
    } in
    ap (λ x. made x p.inactive p.digests p.pending p.partial p.operations_root) c
    ∙ ap (λ x. made q.leaves x p.digests p.pending p.partial p.operations_root) d
    ∙ ap (λ x. made q.leaves q.inactive x p.pending p.partial p.operations_root) e
    ∙ ap (λ x. made q.leaves q.inactive q.digests x p.partial p.operations_root) f
    ∙ ap (λ x. made q.leaves q.inactive q.digests q.pending x p.operations_root) g
    ∙ ap (λ x. made q.leaves q.inactive q.digests q.pending q.partial x) h

parts_same : (p q : Parts) → p.location ≡ q.location → p.chunk ≡ q.chunk → p.range ≡ q.range → p ≡ q
parts_same p q a b c =
    let made : ℕ → List ℕ → RangeParts → Parts =
    λ location chunk range. record { location = location; chunk = chunk; range = range } in
    ap (λ x. made x p.chunk p.range) a ∙ ap (λ x. made q.location x p.range) b ∙ ap (λ x. made q.location q.chunk x) c

module _ (IsPending : Option (List ℕ) → Type 0)
    (pending : Option (List ℕ) → List ℕ) (width size most : ℕ) (small : most < 2 ^ 64)
    (once : (d e : Option (List ℕ)) (rest more : List ℕ) → IsPending d → IsPending e
    → pending d ++ rest ≡ pending e ++ more → (d ≡ e) × (rest ≡ more)) where
  after_digests : RangeParts → List ℕ → List ℕ
  after_digests p x = pending p.pending ++ (option_encoding (λ d. d) p.partial ++ (p.operations_root ++ x))

  range_first : (p : RangeParts) (x : List ℕ) → range_proof_encoding pending p ++ x
      ≡ varint p.leaves ++ (varint p.inactive ++ (list_encoding (λ d. d) p.digests ++ after_digests p x))
  unfolding after_digests
  range_first p x = simp append_assoc

  rest_once : (p q : RangeParts) (x y : List ℕ) → FitsRange IsPending size most p → FitsRange IsPending size most q
      → after_digests p x ≡ after_digests q y
      → (p.pending ≡ q.pending) × ((p.partial ≡ q.partial) × ((p.operations_root ≡ q.operations_root) × (x ≡ y)))
  unfolding after_digests
  rest_once p q x y low high same =
      let six = once p.pending q.pending _ _ low.pending high.pending same in
      let seven = options_once size p.partial q.partial _ _ low.partial high.partial six.1 in
      let eight = fixed_once size p.operations_root q.operations_root x y low.operations_root high.operations_root
      seven.1 in
      (six.0, (seven.0, eight))

  -- of a proof over a range
  pub range_once : (p q : RangeParts) (x y : List ℕ) → FitsRange IsPending size most p → FitsRange IsPending size most q
      → range_proof_encoding pending p ++ x ≡ range_proof_encoding pending q ++ y → (p ≡ q) × (x ≡ y)
  range_once p q x y low high same =
      let three = numbers_once p.leaves q.leaves _ _ (omega (arith, low.leaves)) (omega (arith, high.leaves))
      (sym (range_first p x) ∙ same ∙ range_first q y) in
      let four = numbers_once p.inactive q.inactive _ _ low.inactive high.inactive three.1 in
      let five = lists_once size p.digests q.digests _ _ (omega (arith, low.few, small))
      (omega (arith, high.few, small)) low.digests high.digests four.1 in
      let last = rest_once p q x y low high five.1 in
      (range_same p q three.0 four.0 five.0 last.0 last.1.0 last.1.1.0, last.1.1.1)

  -- of the proof of an update with its next key
  pub key_value_once : (p q : Parts) (x y : List ℕ) → Fits IsPending width size most p
      → Fits IsPending width size most q
      → key_value_proof_encoding pending p x ≡ key_value_proof_encoding pending q y → (p ≡ q) × (x ≡ y)
  key_value_once p q x y low high same =
      let front : (proof : Parts) (rest : List ℕ) → key_value_proof_encoding pending proof rest
      ≡ varint proof.location ++ (proof.chunk ++ (range_proof_encoding pending proof.range ++ rest)) = λ proof rest.
      append_assoc (varint proof.location) (proof.chunk ++ range_proof_encoding pending proof.range) rest
      ∙ ap (λ bytes. varint proof.location ++ bytes)
      (append_assoc proof.chunk (range_proof_encoding pending proof.range) rest) in
      let one = numbers_once p.location q.location _ _ (omega (arith, low.location)) (omega (arith, high.location))
      (sym (front p x) ∙ same ∙ front q y) in
      let two = fixed_once width p.chunk q.chunk _ _ low.chunk high.chunk one.1 in
      let three = range_once p.range q.range x y low.range high.range two.1 in
      (parts_same p q one.0 two.0 three.0, three.1)
