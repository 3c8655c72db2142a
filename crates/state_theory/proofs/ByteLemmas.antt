-- Whole bytes are laid behind bits that fill theirs.
--
--    bytes    [ first bytes ][ zeros ]                   what is held
--    grown    [ first bytes ][ zeros  ...  ]             with room for the new bytes, up to the end of a chunk
--    after    [ first bytes ][ part ][ zeros ]
use Rattle.std.proofs.Common.{◌≡◌, ℕ, suc, ◌+◌, ◌-◌, ◌*◌, ◌/◌, ◌%◌, ◌^◌, ◌<◌, ◌≤◌, false, min, inl, inr}
use Rattle.std.proofs.Common.{List, ◌++◌, length, take, drop, replicate, sym, ◌∙◌, ap, ap₂, arith}
use Rattle.std.proofs.Common.{append_assoc, length-append, length-drop}
use Rattle.std.proofs.lemmas.Bool.{cases_lt}
use Rattle.std.proofs.lemmas.Grind.{div_ceil_times}
use Rattle.std.proofs.lemmas.List.{take_at, take_all, drop_at, take-append-le, length-take-le, drop-drop, drop-append-le, drop-replicate}
use Rattle.std.proofs.lemmas.List.{replicate-append-replicate, length-replicate, take-append-drop}
use Rattle.std.proofs.Math.Nat.{mul_comm}
use Rattle.std.proofs.lemmas.Nat.{mul-le}
use Rattle.state_theory.specs.Bits.{IsHeld, bits_in}
use Rattle.state_theory.proofs.BitLemmas.{length-bits_in, bits_in-append, bits_in-zeros, drop-bits_in}
use Rattle.state_theory.proofs.HeldLemmas.{Holds, held-length}
use Rattle.state_theory.proofs.WidthLemmas.{wide-some}

pub take-bits_in : (count : ℕ) (bytes : List ℕ) → count ≤ length bytes → take (8 * count) (bits_in bytes) ≡ bits_in (take count bytes)
take-bits_in count bytes within =
    ap (take (8 * count)) (ap bits_in (sym (take-append-drop count bytes)) ∙ bits_in-append (take count bytes) (drop count bytes))
    ∙ take_at (bits_in (take count bytes)) (bits_in (drop count bytes)) (8 * count)
    (length-bits_in (take count bytes) ∙ ap (λ n. 8 * n) (length-take-le count bytes within))

-- how long the bytes are with those that are laid, up to the end of a chunk
abbrev pub room : ℕ → ℕ → ℕ
room width end = (end / width + min 1 (end % width)) * width

pub room_fits : (width pruned kept : ℕ) (bytes : List ℕ) (end : ℕ) → IsHeld width pruned kept bytes → kept ≤ 8 * end
    → (length bytes ≤ room width end) × ((end ≤ room width end) × (room width end < end + width))
room_fits width pruned kept bytes end held le =
    let some = wide-some width held.wide in
    let bounds = div_ceil_times end width (omega (arith, some)) in
    let count = end / width + min 1 (end % width) in
    let as_many : room width end ≡ width * count = mul_comm count width in
    elim (cases_lt count held.count) [
      | inl fewer ↦
          let less = mul-le width (suc count) width held.count (omega arith) (omega (arith, fewer)) in
          absurd (omega (arith, less, held.counted, held.tight, bounds.0, as_many, le))
      | inr enough ↦
          let least = mul-le width held.count width count (omega arith) enough in
          (omega (arith, least, held.counted, as_many), (bounds.0, bounds.1))
    ]

-- what is held after bytes are laid behind the bits
pub laid_behind : (width pruned kept first size len : ℕ) (bytes part grown after : List ℕ) → IsHeld width pruned kept bytes
    → kept ≡ 8 * first → 8 * width * pruned + kept + 8 * length part ≤ 2 ^ 62
    → size ≡ room width (first + length part) → len ≡ length bytes
    → grown ≡ take size bytes ++ replicate (size - len) 0
    → after ≡ take first grown ++ (part ++ drop (first + length part) grown)
    → Holds width pruned (kept + 8 * length part) after (take kept (bits_in bytes) ++ bits_in part)
laid_behind width pruned kept first size len bytes part grown after held at few size_is len_is grown_is after_is =
    let end = first + length part in
    let bounds = room_fits width pruned kept bytes end held (omega (arith, at)) in
    let fits : (length bytes ≤ size) × ((end ≤ size) × (size < end + width)) =
    (omega (arith, bounds.0, size_is), (omega (arith, bounds.1.0, size_is), omega (arith, bounds.1.1, size_is))) in
    let extra = size - len in
    let whole : grown ≡ bytes ++ replicate extra 0 =
    grown_is ∙ ap (λ front. front ++ replicate extra 0) (take_all size bytes fits.0) in
    let long : length grown ≡ size =
    ap length whole ∙ length-append bytes (replicate extra 0) ∙ omega (arith, length-replicate {A = ℕ} extra 0, fits.0, len_is) in
    let reach : first ≤ length bytes = omega (arith, held.enough, at) in
    let grown_bits : bits_in grown ≡ bits_in bytes ++ replicate (8 * extra) false =
    ap bits_in whole ∙ bits_in-append bytes (replicate extra 0) ∙ ap (λ zeros. bits_in bytes ++ zeros) (bits_in-zeros extra) in
    let zeros : drop kept (bits_in grown) ≡ replicate (8 * size - kept) false =
    ap (drop kept) grown_bits
    ∙ drop-append-le kept (bits_in bytes) (replicate (8 * extra) false) (omega (arith, held.enough, length-bits_in bytes))
    ∙ ap (λ back. back ++ replicate (8 * extra) false) held.zeros
    ∙ replicate-append-replicate (8 * length bytes - kept) (8 * extra) false
    ∙ ap (λ n. replicate n false) (omega (arith, held.enough, fits.0, len_is)) in
    let front : bits_in (take first grown) ≡ take kept (bits_in bytes) =
    ap (λ xs. bits_in (take first xs)) whole ∙ ap bits_in (take-append-le first bytes (replicate extra 0) reach)
    ∙ sym (take-bits_in first bytes reach) ∙ ap (λ n. take n (bits_in bytes)) (sym at) in
    let back : bits_in (drop end grown) ≡ replicate (8 * size - (kept + 8 * length part)) false =
    sym (drop-bits_in end grown)
    ∙ ap (λ n. drop n (bits_in grown)) (omega (arith, at))
    ∙ sym (drop-drop (8 * length part) kept (bits_in grown)) ∙ ap (drop (8 * length part)) zeros
    ∙ drop-replicate (8 * length part) (8 * size - kept) false ∙ ap (λ n. replicate n false) (omega arith) in
    let old = take kept (bits_in bytes) in
    let rest = replicate (8 * size - (kept + 8 * length part)) false in
    let bits : bits_in after ≡ (old ++ bits_in part) ++ rest =
    ap bits_in after_is ∙ bits_in-append (take first grown) (part ++ drop end grown)
    ∙ ap₂ (λ xs ys. xs ++ ys) front (bits_in-append part (drop end grown) ∙ ap (λ ys. bits_in part ++ ys) back)
    ∙ sym (append_assoc old (bits_in part) rest) in
    let ends : length (old ++ bits_in part) ≡ kept + 8 * length part =
    length-append old (bits_in part) ∙ ap₂ (λ n m. n + m) (held-length width pruned kept bytes held) (length-bits_in part) in
    let total : length after ≡ size =
    ap length after_is ∙ length-append (take first grown) (part ++ drop end grown)
    ∙ omega (
      arith,
      length-take-le first grown (omega (arith, long, reach, fits.0)),
      length-append part (drop end grown),
      length-drop end grown,
      long,
      fits.1.0,
    ) in
    record {
      held = record {
        wide = held.wide;
        few = omega (arith, few);
        low = held.low;
        count = end / width + min 1 (end % width);
        counted = total ∙ size_is ∙ mul_comm (end / width + min 1 (end % width)) width;
        enough = omega (arith, total, at, fits.1.0);
        tight = omega (arith, total, at, fits.1.1);
        zeros = ap (drop (kept + 8 * length part)) bits ∙ drop_at (old ++ bits_in part) rest (kept + 8 * length part) ends
            ∙ ap (λ n. replicate (8 * n - (kept + 8 * length part)) false) (sym total);
      };
      bits_are = ap (take (kept + 8 * length part)) bits ∙ take_at (old ++ bits_in part) rest (kept + 8 * length part) ends;
    }
