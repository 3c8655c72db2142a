-- A Merkle proof: its encoding and its grammar.
use Rattle.std.specs.Prelude.{ℕ, ◌+◌, ◌*◌, ◌^◌, List, ◌++◌, length}
use Rattle.merkle_forest.specs.Codec.{Outcome, ◌>>=◌, LacksAfter}
use Rattle.merkle_forest.specs.Lists.{list_encoding, count_at, after_list, HasItems}
use Rattle.merkle_forest.specs.Varint.{varint, after_varint, after_number}

-- leaf count, count of inactive peaks, and digests
abbrev pub proof_encoding : ℕ → ℕ → List (List ℕ) → List ℕ
proof_encoding leaves inactive digests = varint leaves ++ (varint inactive ++ list_encoding (λ d. d) digests)

-- the greatest length of the encoding of a proof of at most 2 ^ 62 leaves with at most so many digests, each of `size`
-- bytes: 9 bytes of the leaf count, 10 of the count of inactive peaks, the count of the digests, and all of them
abbrev pub greatest_length : ℕ → ℕ → ℕ
greatest_length size most = 9 + 10 + length (varint most) + most * size

-- the bytes after a Merkle proof of at most so many digests, or its first fault; `digest` is the grammar of a digest
abbrev pub after_proof : (List ℕ → Outcome) → ℕ → List ℕ → Outcome
after_proof digest most bytes = after_number (2 ^ 62) bytes >>= after_varint >>= after_list digest 0 most

-- memory may be lacking for the digests, where their count is good and above zero
abbrev pub ProofLacks : ℕ → List ℕ → Type 0
ProofLacks most bytes =
    LacksAfter (after_number (2 ^ 62) bytes >>= after_varint) (λ digests. HasItems (count_at 0 most digests))
