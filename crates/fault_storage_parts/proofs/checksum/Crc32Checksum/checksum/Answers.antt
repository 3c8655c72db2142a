use Rattle.std.proofs.Common.{◌≡◌, ◌∙◌, take, ◌+◌, ◌^◌, ◌-◌, ◌<◌}
use Rattle.std.proofs.Common.{◌≤◌, ap, sym, bit_xor, drop, length, get_or, drop-cons, add-one, List, ℕ}
use Rattle.std.proofs.lemmas.List.{drop_all, take-append-drop}
use Rattle.fault_storage_parts.specs.Crc32.{after_bits, after_bytes}
use Rattle.fault_storage_parts.proofs.Crc.{bytes-append}
use Rattle.fault_storage_parts.proofs.checksum.Crc32Checksum.checksum.Goals as goal

one_more : (left next i : ℕ) (bytes : List ℕ) → i < length bytes → next ≡ after_bits 8 (bit_xor left (get_or bytes i 0))
    → after_bytes next (drop (i + 1) bytes) ≡ after_bytes left (drop i bytes)
unfolding after_bytes
one_more left next i bytes lt is = ap (λ n. after_bytes n (drop (i + 1) bytes)) is ∙ rw (add-one) (sym (ap (after_bytes left) (drop-cons bytes i 0 lt)))

all : (left i : ℕ) (bytes : List ℕ) → length bytes ≤ i → after_bytes left (drop i bytes) ≡ left
unfolding after_bytes
all left i bytes le = ap (after_bytes left) (drop_all i bytes le)

eight_more : (left next : ℕ) (bytes later : List ℕ) → next ≡ after_bytes left (take 8 bytes) → later ≡ drop 8 bytes
    → after_bytes next later ≡ after_bytes left bytes
eight_more left next bytes later is behind =
    ap (λ n. after_bytes n later) is ∙ ap (after_bytes (after_bytes left (take 8 bytes))) behind ∙ sym (bytes-append left (take 8 bytes) (drop 8 bytes))
    ∙ ap (after_bytes left) (take-append-drop 8 bytes)

pub loop-rest-preserved : goal.loop-rest-preserved
loop-rest-preserved c =
    eight_more c.loop-rest.left c.step_front-left.result c.loop-rest.rest.now c.behind_eight-rest.result.now c.step_front-left.ensures
    c.behind_eight-rest.ensures ∙ c.loop-rest.invariant

pub loop-byte-preserved : goal.loop-byte-preserved
loop-byte-preserved c =
    one_more c.loop-byte.left c.step-left.result c.loop-byte.byte-index c.loop-rest.rest.now c.loop-byte-test.true c.step-left.ensures ∙ c.loop-byte.invariant

pub returns : goal.returns
returns c = ap (λ left. bit_xor left (2 ^ 32 - 1)) (sym (all c.loop-byte.left c.loop-byte.byte-index c.loop-rest.rest.now c.loop-byte-test.false)
    ∙ c.loop-byte.invariant)
