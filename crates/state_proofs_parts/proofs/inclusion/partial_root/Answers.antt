use Rattle.std.proofs.Common.{◌≡◌, ◌-◌, ◌/◌, ◌<◌, ◌∷◌, [], List, ℕ}
use Rattle.std.proofs.Common.{option_map, length, map, refl, sym, ◌∙◌, ap, ap₂, subst, arith}
use Rattle.std.proofs.lemmas.Grind.{common_steps}
use Rattle.std.proofs.lemmas.List.{length-map}
use Rattle.merkle_forest.specs.Forest.{mmr_rule}
use Rattle.merkle_forest.specs.Made.{value}
use Rattle.merkle_theory.specs.Reads.{range_root}
use Rattle.merkle_theory.specs.Soundness.{plain_names}
use Rattle.state_theory.specs.Inclusion.{BitClaim}
use Rattle.state_theory.specs.Maps.{bitmap_string}
use Rattle.state_theory.proofs.ReadLemmas.{read_last, read_before, last-mapped, front-mapped}
use Rattle.state_proofs_parts.proofs.inclusion.partial_root.Goals as goal

pub returns-then-bits-size : goal.returns-then-bits-size
returns-then-bits-size g c over hashes =
    let hash = g.H.Hasher.hash_of in
    let encoding = g.D.Write.encoding in
    let digests = c.args.digests.now in
    let claim : BitClaim = record {
      bits = c.args.bits;
      inactive = 0;
      digests = map encoding digests;
      bit = c.args.bit;
      chunk = c.args.chunk.now;
    } in
    let some : 0 < length digests = grind (arith, common_steps, c.is_empty.ensures, c.if-is_empty.false) in
    let one : length (map encoding digests) ≡ 1 = omega (arith, length-map digests encoding, c.if-count-gt0.false, some) in
    let last = last-mapped encoding digests (length digests - 1) c.index-digests-count.result (omega (arith, some)) refl c.index-digests-count.is in
    read_last hash over (g.H.Hasher.bagging_of c.args.hasher.now) g.row.N claim (encoding c.partial_digest.result) one
    (subst (λ n. c.args.bits / n ≡ c.args.bit / n) c.chunk_size_bits-size.ensures.bits c.if-bits-size.true)
    (c.partial_digest.ensures ∙ ap₂ (λ l d. hash (bitmap_string l c.args.bits d)) last c.digest.ensures)

pub returns-in-Some : goal.returns-in-Some
returns-in-Some g c over hashes =
    let hash = g.H.Hasher.hash_of in
    let bagging = g.H.Hasher.bagging_of c.args.hasher.now in
    let encoding = g.D.Write.encoding in
    let digests = c.args.digests.now in
    let claim : BitClaim = record {
      bits = c.args.bits;
      inactive = 0;
      digests = map encoding digests;
      bit = c.args.bit;
      chunk = c.args.chunk.now;
    } in
    let some : 0 < length digests = grind (arith, common_steps, c.is_empty.ensures, c.if-is_empty.false) in
    let last = last-mapped encoding digests (length digests - 1) c.index-digests-count.result (omega (arith, some)) refl c.index-digests-count.is in
    read_before hash over bagging g.row.N claim (encoding c.in-Some.tree) (encoding c.partial_digest-in-Some.result)
    (λ same. c.if-bits-size.false (subst (λ n. c.args.bits / n ≡ c.args.bit / n) (sym c.chunk_size_bits-size.ensures.bits) same))
    (λ none. omega (arith, length-map digests encoding, none, some))
    (sym (sym (ap (option_map encoding) c.in-Some.is) ∙ c.in_ok-found.ensures over hashes
    ∙ ap₂ (λ (n : ℕ) (ds : List (List ℕ)). option_map (value hash) (range_root plain_names over bagging mmr_rule (c.args.bits / n) 0
    (c.args.bit / n) (c.args.chunk.now ∷ []) ds)) c.chunk_size_bits-size.ensures.bits (front-mapped encoding digests (length digests - 1) refl)))
    (c.partial_digest-in-Some.ensures ∙ ap (λ l. hash (bitmap_string (encoding c.in-Some.tree) c.args.bits l)) last)
