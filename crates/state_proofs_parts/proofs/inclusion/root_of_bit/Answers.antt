use Rattle.std.proofs.Common.{◌≡◌, ◌*◌, ◌/◌, ◌%◌, ◌∷◌, [], List, ℕ, option_map, map, sym, ◌∙◌, ap, ap₂, subst, arith}
use Rattle.std.specs.Prelude.{IfOk}
use Rattle.merkle_forest.specs.Forest.{mmr_rule}
use Rattle.merkle_forest.specs.Made.{value}
use Rattle.merkle_theory.specs.Reads.{range_root}
use Rattle.merkle_theory.specs.Soundness.{plain_names}
use Rattle.state_theory.specs.Inclusion.{BitClaim, partial_read}
use Rattle.state_theory.proofs.ReadLemmas.{bit_past, bit_inactive, bit_full, bit_partial}
use Rattle.state_proofs_parts.proofs.inclusion.root_of_bit.Goals as goal

pub returns-then-bit-bits : goal.returns-then-bit-bits
returns-then-bit-bits g c over hashes =
    sym (ap (option_map (value g.H.Hasher.hash_of)) (bit_past g.H.Hasher.hash_of over (g.H.Hasher.bagging_of c.args.hasher.now) g.row.N (record {
      bits = c.args.proof.now.leaves;
      inactive = c.args.proof.now.inactive_peaks;
      digests = map g.D.Write.encoding c.args.proof.now.digests.items;
      bit = c.args.bit;
      chunk = c.args.chunk.now;
    }) (omega (arith, c.as_u64-bits.ensures, c.if-bit-bits.true))))

pub returns-then-proof-gt0 : goal.returns-then-proof-gt0
returns-then-proof-gt0 g c over hashes =
    sym (ap (option_map (value g.H.Hasher.hash_of)) (bit_inactive g.H.Hasher.hash_of over (g.H.Hasher.bagging_of c.args.hasher.now) g.row.N (record {
      bits = c.args.proof.now.leaves;
      inactive = c.args.proof.now.inactive_peaks;
      digests = map g.D.Write.encoding c.args.proof.now.digests.items;
      bit = c.args.bit;
      chunk = c.args.chunk.now;
    }) (omega (arith, c.as_u64-bits.ensures, c.if-bit-bits.false)) (omega (arith, c.if-proof-gt0.true))))

pub returns-then-bits-size-eq0 : goal.returns-then-bits-size-eq0
returns-then-bits-size-eq0 g c over hashes =
    let hash = g.H.Hasher.hash_of in
    let bagging = g.H.Hasher.bagging_of c.args.hasher.now in
    let encoding = g.D.Write.encoding in
    let leaf_total = c.args.proof.now.leaves in
    let claim : BitClaim = record {
      bits = leaf_total;
      inactive = c.args.proof.now.inactive_peaks;
      digests = map encoding c.args.proof.now.digests.items;
      bit = c.args.bit;
      chunk = c.args.chunk.now;
    } in
    let size = c.chunk_size_bits-size.result in
    let full : leaf_total % (8 * g.row.N) ≡ 0 =
    ap₂ (λ b n. b % n) (sym c.as_u64-bits.ensures) (sym c.chunk_size_bits-size.ensures.bits) ∙ c.if-bits-size-eq0.true in
    let is = ap₂ (λ (b : ℕ) (ds : List (List ℕ)). option_map (value hash) (range_root plain_names over bagging mmr_rule (b / size) 0
    (c.args.bit / size) (c.args.chunk.now ∷ []) ds)) c.as_u64-bits.ensures (ap (map encoding) c.deref.ensures.value)
    ∙ ap (λ (n : ℕ). option_map (value hash) (range_root plain_names over bagging mmr_rule (leaf_total / n) 0 (c.args.bit / n)
    (c.args.chunk.now ∷ []) (map encoding c.args.proof.now.digests.items))) c.chunk_size_bits-size.ensures.bits
    ∙ bit_full hash over bagging g.row.N claim (omega (arith, c.as_u64-bits.ensures, c.if-bit-bits.false)) (omega (arith, c.if-proof-gt0.false)) full in
    subst (λ v. IfOk c.chunk_root.result (λ found. option_map encoding found ≡ v)) is (c.chunk_root.ensures over hashes)

pub returns : goal.returns
returns g c over hashes =
    let hash = g.H.Hasher.hash_of in
    let bagging = g.H.Hasher.bagging_of c.args.hasher.now in
    let encoding = g.D.Write.encoding in
    let leaf_total = c.args.proof.now.leaves in
    let claim : BitClaim = record {
      bits = leaf_total;
      inactive = c.args.proof.now.inactive_peaks;
      digests = map encoding c.args.proof.now.digests.items;
      bit = c.args.bit;
      chunk = c.args.chunk.now;
    } in
    let rest : leaf_total % (8 * g.row.N) ≡ 0 → ⊥ =
    λ full. c.if-bits-size-eq0.false (ap₂ (λ b n. b % n) c.as_u64-bits.ensures c.chunk_size_bits-size.ensures.bits ∙ full) in
    let is = ap₂ (λ (b : ℕ) (ds : List (List ℕ)). option_map (value hash) (partial_read over bagging g.row.N (record claim {
      bits = b;
      inactive = 0;
      digests = ds;
    }))) c.as_u64-bits.ensures (ap (map encoding) c.deref-2.ensures.value)
    ∙ ap (option_map (value hash)) (bit_partial hash over bagging g.row.N claim (omega (arith, c.as_u64-bits.ensures, c.if-bit-bits.false))
    (omega (arith, c.if-proof-gt0.false)) rest) in
    subst (λ v. IfOk c.partial_root.result (λ found. option_map encoding found ≡ v)) is (c.partial_root.ensures over hashes)
