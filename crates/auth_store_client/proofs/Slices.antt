-- Bytes that encode a witness and a proof within the limits are read to their end, and encode these alone.
use Rattle.std.proofs.Common.{◌≡◌, ℕ, ◌^◌, ◌<◌, ◌≤◌, List, [], ◌++◌, length}
use Rattle.std.proofs.Common.{Option, Some, None, Ok, refl, sym, ◌∙◌, ap, append_assoc, append-nil, arith}
use Rattle.std.specs.Prelude.{IfSome, option_map}
use Rattle.std.proofs.lemmas.List.{length-map}
use Rattle.merkle_forest.specs.Codec.{◌>>=◌, Outcome, option_encoding, after_option}
use Rattle.merkle_forest.specs.Laws.Codec.{fixed_again, one_encoding}
use Rattle.merkle_forest.specs.Laws.Varint.{after_varint_again}
use Rattle.merkle_forest.specs.Forest.{Rule}
use Rattle.merkle_forest.specs.Hashing.{Hash}
use Rattle.merkle_forest.specs.Lists.{list_encoding, AreItems}
use Rattle.merkle_forest.specs.Varint.{varint, after_varint}
use Rattle.merkle_theory.specs.Laws.Proofs.{all_sized, proof_again, proof_within}
use Rattle.merkle_theory.specs.MadeTrees.{plain_over}
use Rattle.merkle_theory.specs.Proofs.{proof_encoding, after_proof}
use Rattle.merkle_theory.specs.Reads.{HashesAs}
use Rattle.state_theory.specs.Laws.Encoded.{Grammar}
use Rattle.state_theory.specs.Laws.Once.{numbers_once, fixed_once, lists_once}
use Rattle.state_theory.specs.LogProofs.{leaf_hash, branch_hash}
use Rattle.state_proofs.specs.Witness.{WitnessParts, witness_encoding, next_encoding, after_next, after_witness, HasNext}
use Rattle.auth_store_client.specs.declared.slice.Slice.{Slice}
use Rattle.auth_store_client.specs.Slices.{SliceParts, slice_encoding, after_slice, FitsSlice}
use Rattle.auth_store_client.specs.SlicesCode.{slice_of}

-- how leaves and branches of the operations' tree are hashed
pub plainly : (rule : Rule) (hash : Hash) → HashesAs rule hash (leaf_hash hash) (branch_hash hash) plain_over
plainly rule hash = record { leaf = λ p element. refl; branch = λ at high p left right there. refl }

-- the fields of a Merkle proof, one after the other
proof_first : (leaves inactive : ℕ) (digests : List (List ℕ)) (rest : List ℕ) → proof_encoding leaves inactive digests ++ rest
    ≡ varint leaves ++ (varint inactive ++ (list_encoding (λ d. d) digests ++ rest))
proof_first leaves inactive digests rest = simp append_assoc

module _ (size : ℕ) where
  abbrev IsNext : Option (ℕ × List ℕ) → Type 0
  IsNext partial = IfSome partial (λ x. (x.0 < 2 ^ 64) × (length x.1 ≡ size))

  next_same : (p q : Option (ℕ × List ℕ)) → IsNext p → IsNext q
      → option_encoding next_encoding p ≡ option_encoding next_encoding q → p ≡ q
  next_same None None low high same = refl
  next_same None (Some y) low high same = absurd cc
  next_same (Some x) None low high same = absurd cc
  next_same (Some x) (Some y) low high same =
      let inner : next_encoding x ≡ next_encoding y = cc in
      let parts = numbers_once x.0 y.0 x.1 y.1 low.0 high.0 inner in
      ap (λ n. Some (n, x.1)) parts.0 ∙ ap (λ d. Some (y.0, d)) parts.1

module _ (digest held : List ℕ → Outcome) (IsPending : Option (List ℕ) → Type 0) (pending : Option (List ℕ) → List ℕ)
    (size most : ℕ) (small : most < 2 ^ 64) (grammar : Grammar digest held IsPending pending size) where
  digest_again : (d more : List ℕ) → length d ≡ size → digest (d ++ more) ≡ Ok more
  digest_again d more is = grammar.any (d ++ more) ∙ fixed_again size d more is

  next_again : (x : Option (ℕ × List ℕ)) (rest : List ℕ) → IsNext size x
      → after_option (after_next digest) (option_encoding next_encoding x ++ rest) ≡ Ok rest
  next_again None rest is = refl
  next_again (Some x) rest is =
      let number : after_varint (varint x.0 ++ (x.1 ++ rest)) ≡ Ok (x.1 ++ rest) = after_varint_again x.0 (x.1 ++ rest) is.0 in
      rw (append_assoc (varint x.0) x.1 rest, number) (digest_again x.1 rest is.1)

  witness_first : (w : WitnessParts) (rest : List ℕ) → witness_encoding pending w ++ rest
      ≡ w.grafted_root ++ (pending w.pending ++ (option_encoding next_encoding w.partial ++ rest))
  witness_first w rest = simp append_assoc

  witness_reads : (w : WitnessParts) (rest : List ℕ) → length w.grafted_root ≡ size → IsPending w.pending → IsNext size w.partial
      → after_witness digest held (witness_encoding pending w ++ rest) ≡ Ok rest
  witness_reads w rest sized is next =
      let last : List ℕ = option_encoding next_encoding w.partial ++ rest in
      rw (
        witness_first w rest,
        digest_again w.grafted_root (pending w.pending ++ last) sized,
        grammar.again w.pending last is,
      )
      (next_again w.partial rest next)

  slice_first : (s : SliceParts) (rest : List ℕ) → slice_encoding pending s ++ rest
      ≡ witness_encoding pending s.witness ++ (proof_encoding s.leaves s.inactive s.digests ++ rest)
  slice_first s rest = append_assoc (witness_encoding pending s.witness) (proof_encoding s.leaves s.inactive s.digests) rest

  pub slice_reads : (s : SliceParts) (rest : List ℕ) → FitsSlice IsPending size most s
      → after_slice digest held most (slice_encoding pending s ++ rest) ≡ Ok rest
  slice_reads s rest fits =
      let proof : List ℕ = proof_encoding s.leaves s.inactive s.digests ++ rest in
      ap (λ bytes. after_witness digest held bytes >>= after_proof digest most) (slice_first s rest)
      ∙ ap (λ outcome. outcome >>= after_proof digest most) (witness_reads s.witness proof fits.grafted_root fits.pending fits.partial)
      ∙ proof_again digest size most s.leaves s.inactive s.digests rest grammar.any fits.leaves fits.inactive
      (omega (arith, fits.few, small)) fits.few fits.digests

  -- what is read is within the limits of its counts
  pub slice_within : (s : SliceParts) (rest new : List ℕ) → length s.witness.grafted_root ≡ size → IsPending s.witness.pending
      → IsNext size s.witness.partial → s.leaves < 2 ^ 64 → s.inactive < 2 ^ 64 → length s.digests < 2 ^ 64
      → after_slice digest held most (slice_encoding pending s ++ rest) ≡ Ok new → (s.leaves ≤ 2 ^ 62) × (length s.digests ≤ most)
  slice_within s rest new sized is next low little countable read =
      let proof : List ℕ = proof_encoding s.leaves s.inactive s.digests ++ rest in
      let behind : after_proof digest most proof ≡ Ok new =
      sym (ap (λ bytes. after_witness digest held bytes >>= after_proof digest most) (slice_first s rest)
      ∙ ap (λ outcome. outcome >>= after_proof digest most) (witness_reads s.witness proof sized is next)) ∙ read in
      proof_within digest most s.leaves s.inactive s.digests rest new low little countable behind

  next_once : (p q : Option (ℕ × List ℕ)) (x y : List ℕ) → IsNext size p → IsNext size q
      → option_encoding next_encoding p ++ x ≡ option_encoding next_encoding q ++ y → (p ≡ q) × (x ≡ y)
  next_once p q x y low high same =
      let it = one_encoding (option_encoding next_encoding) (after_option (after_next digest)) (IsNext size) next_again p q x y low high same in
      (next_same size p q low high it.0, it.1)

  proof_once : (s t : SliceParts) (x y : List ℕ) → FitsSlice IsPending size most s → FitsSlice IsPending size most t
      → proof_encoding s.leaves s.inactive s.digests ++ x ≡ proof_encoding t.leaves t.inactive t.digests ++ y
      → (s.leaves ≡ t.leaves) × (s.inactive ≡ t.inactive) × (s.digests ≡ t.digests)
  proof_once s t x y low high same =
      let one = numbers_once s.leaves t.leaves _ _ (omega (arith, low.leaves)) (omega (arith, high.leaves))
      (sym (proof_first s.leaves s.inactive s.digests x) ∙ same ∙ proof_first t.leaves t.inactive t.digests y) in
      let two = numbers_once s.inactive t.inactive _ _ low.inactive high.inactive one.1 in
      let three = lists_once size s.digests t.digests _ _ (omega (arith, low.few, small)) (omega (arith, high.few, small)) low.digests
      high.digests two.1 in
      (one.0, two.0, three.0)

  slice_same : (s t : SliceParts) → s.witness.grafted_root ≡ t.witness.grafted_root → s.witness.pending ≡ t.witness.pending
      → s.witness.partial ≡ t.witness.partial → s.leaves ≡ t.leaves → s.inactive ≡ t.inactive → s.digests ≡ t.digests → s ≡ t
  slice_same s t a b c d e f =
      let made : List ℕ → Option (List ℕ) → Option (ℕ × List ℕ) → ℕ → ℕ → List (List ℕ) → SliceParts =
      λ root held partial leaves inactive digests. record {
        witness = record { grafted_root = root; pending = held; partial = partial };
        leaves = leaves;
        inactive = inactive;
        digests = digests;
      } in
      ap (λ x. made x s.witness.pending s.witness.partial s.leaves s.inactive s.digests) a
      ∙ ap (λ x. made t.witness.grafted_root x s.witness.partial s.leaves s.inactive s.digests) b
      ∙ ap (λ x. made t.witness.grafted_root t.witness.pending x s.leaves s.inactive s.digests) c
      ∙ ap (λ x. made t.witness.grafted_root t.witness.pending t.witness.partial x s.inactive s.digests) d
      ∙ ap (λ x. made t.witness.grafted_root t.witness.pending t.witness.partial t.leaves x s.digests) e
      ∙ ap (λ x. made t.witness.grafted_root t.witness.pending t.witness.partial t.leaves t.inactive x) f

  -- the bytes encode one alone
  pub slice_once : (s t : SliceParts) → FitsSlice IsPending size most s → FitsSlice IsPending size most t
      → slice_encoding pending s ≡ slice_encoding pending t → s ≡ t
  slice_once s t low high same =
      let front : (u : SliceParts) → slice_encoding pending u
      ≡ u.witness.grafted_root ++ (pending u.witness.pending ++ (option_encoding next_encoding u.witness.partial
      ++ (proof_encoding u.leaves u.inactive u.digests ++ []))) = λ u.
      sym (append-nil (slice_encoding pending u)) ∙ slice_first u []
      ∙ witness_first u.witness (proof_encoding u.leaves u.inactive u.digests ++ []) in
      let one = fixed_once size s.witness.grafted_root t.witness.grafted_root _ _ low.grafted_root high.grafted_root
      (sym (front s) ∙ same ∙ front t) in
      let two = grammar.once s.witness.pending t.witness.pending _ _ low.pending high.pending one.1 in
      let three = next_once s.witness.partial t.witness.partial _ _ low.partial high.partial two.1 in
      let last = proof_once s t [] [] low high three.1 in
      slice_same s t one.0 two.0 three.0 last.0 last.1 last.2

-- so is what the code holds of them
module _ {D P : Type 0} (encoding : D → List ℕ) (is_value : D → Type 0) (size : ℕ) (sized : (d : D) → is_value d → length (encoding d) ≡ size)
    (held : P → Option (List ℕ)) (is_held : P → Type 0) (IsPending : Option (List ℕ) → Type 0)
    (holds : (p : P) → is_held p → IsPending (held p)) where
  next_fits : (p : Option (ℕ × D)) → HasNext is_value p
      → IfSome (option_map {U = ℕ × List ℕ} (λ x. (x.0, encoding x.1)) p) (λ x. (x.0 < 2 ^ 64) × (length x.1 ≡ size))
  next_fits None value = tt
  next_fits (Some x) value = (value.0, sized x.1 value.1)

  pub read_fits : {F : Type 0} (digest after : List ℕ → Outcome) (pending : Option (List ℕ) → List ℕ) (most : ℕ) (small : most < 2 ^ 64)
      (grammar : Grammar digest after IsPending pending size) (s : Slice F D P) (rest new : List ℕ)
      → is_value s.witness.grafted_root × is_held s.witness.pending_chunk_digest × HasNext is_value s.witness.partial_chunk
      → (s.proof.leaves < 2 ^ 64) × (s.proof.inactive_peaks < 2 ^ 64) × AreItems is_value s.proof.digests.items
      → after_slice digest after most (slice_encoding pending (slice_of encoding held s) ++ rest) ≡ Ok new
      → FitsSlice IsPending size most (slice_of encoding held s)
  read_fits digest after pending most small grammar s rest new witness proof read =
      let root = sized s.witness.grafted_root witness.0 in
      let is = holds s.witness.pending_chunk_digest witness.1 in
      let next = next_fits s.witness.partial_chunk witness.2 in
      let count = length-map s.proof.digests.items encoding in
      let within = slice_within digest after IsPending pending size most small grammar (slice_of encoding held s) rest new root is next
      proof.0 proof.1 (omega (arith, count, proof.2.0)) read in
      record {
        grafted_root = root;
        pending = is;
        partial = next;
        leaves = within.0;
        inactive = proof.1;
        few = within.1;
        digests = all_sized encoding is_value size s.proof.digests.items sized proof.2.1;
      }
