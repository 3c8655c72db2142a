-- How bits are held in bytes.
use Rattle.std.proofs.Common.{◌≡◌, ℕ, zero, suc, ◌+◌, ◌-◌, ◌*◌, ◌^◌, ◌<◌, ◌≤◌, ◌≢◌, Bool, false, eqb, ◌/◌, ◌%◌, inl, inr}
use Rattle.std.proofs.Common.{List, [], ◌∷◌, ◌++◌, length, take, drop, get_or, replicate, refl, sym, ◌∙◌, ap, ap₂}
use Rattle.std.proofs.Common.{subst, arith, append_assoc, length-append}
use Rattle.std.proofs.Math.Nat.{mul_comm, mul_assoc, mul-add}
use Rattle.std.proofs.lemmas.Bool.{cases_lt, cond-true, cond-false, ne_eqb, eq-eqb}
use Rattle.std.proofs.lemmas.Nat.{div-mul-add, mod-mul-add, mul-le}
use Rattle.std.specs.Prelude.{slice_set}
use Rattle.std.proofs.lemmas.List.{length-take-le, length-drop, drop-drop, drop-take, take-append-drop, get_or-drop}
use Rattle.std.proofs.lemmas.List.{drop_at, take_at, take_all, drop-set-lt, drop-replicate, take_more_set, drop_all, take-set-le}
use Rattle.state_theory.specs.Bits.{Bits, IsHeld, bits_in, chunk_of, chunk_at, bit_count, last_chunk}
use Rattle.state_theory.proofs.BitLemmas.{length-bits_in, drop-bits_in, bits_in-front, drop_padded, chunk_of-padded, chunk_of-bits_in}
use Rattle.state_theory.proofs.ChunkLemmas.{chunks_of_bits}
use Rattle.state_theory.proofs.WidthLemmas.{wide-some}

-- all bits that are kept are in the bytes
pub held-length : (width pruned kept : ℕ) (bytes : List ℕ) → IsHeld width pruned kept bytes → length (take kept (bits_in bytes)) ≡ kept
held-length width pruned kept bytes held =
    length-take-le kept (bits_in bytes) (omega (arith, held.enough, length-bits_in bytes))

pub counted : (width pruned kept : ℕ) (bytes : List ℕ) → IsHeld width pruned kept bytes
    → kept + pruned * (8 * width) ≡ bit_count width (record { pruned = pruned; kept = take kept (bits_in bytes) })
counted width pruned kept bytes held = omega (arith, held-length width pruned kept bytes held, mul_comm pruned (8 * width))

-- full chunks are far fewer than numbers
pub few_full : (width pruned kept : ℕ) (bytes : List ℕ) → IsHeld width pruned kept bytes → pruned + kept / (8 * width) < 2 ^ 61
few_full width pruned kept bytes held =
    let count = pruned + kept / (8 * width) in
    let least = mul-le 8 count (8 * width) count (omega (arith, wide-some width held.wide)) (omega arith) in
    omega (arith, held.few, least, chunks_of_bits width kept, mul-add (8 * width) pruned (kept / (8 * width)))

-- where a chunk begins before others end, so does it end
pub chunk_within : (width i count : ℕ) → width * i < width * count → width * i + width ≤ width * count
chunk_within width i zero lt = absurd (omega arith)
chunk_within width zero (suc count) lt = omega arith
chunk_within width (suc i) (suc count) lt = omega (arith, chunk_within width i count (omega arith))

pub eights : (width i : ℕ) → 8 * width * i ≡ 8 * (i * width)
eights width i = mul_assoc 8 width i ∙ ap (λ n. 8 * n) (mul_comm width i)

-- a kept chunk, of which a bit is there, is whole in the bytes
pub chunk_ends : (width pruned kept : ℕ) (bytes : List ℕ) (i : ℕ) → IsHeld width pruned kept bytes → 8 * width * i < kept
    → i * width + width ≤ length bytes
chunk_ends width pruned kept bytes i held lt =
    let before : width * i < width * held.count = omega (arith, held.counted, held.enough, eights width i, mul_comm width i) in
    omega (arith, chunk_within width i held.count before, held.counted, mul_comm width i)

-- the bytes are those of the bits, and of zeros after them
padded : (width pruned kept : ℕ) (bytes : List ℕ) → IsHeld width pruned kept bytes
    → bits_in bytes ≡ take kept (bits_in bytes) ++ replicate (8 * length bytes - kept) false
padded width pruned kept bytes held =
    sym (take-append-drop kept (bits_in bytes)) ∙ ap (λ back. take kept (bits_in bytes) ++ back) held.zeros

pub chunk_held : (width pruned kept : ℕ) (bytes : List ℕ) (i : ℕ) → IsHeld width pruned kept bytes → 8 * width * i < kept
    → ((k : ℕ) → k < length bytes → get_or bytes k 0 < 256)
    → take width (drop (i * width) bytes) ≡ chunk_at width (take kept (bits_in bytes)) i
chunk_held width pruned kept bytes i held lt small =
    let bits = take kept (bits_in bytes) in
    let zeros = drop_padded (8 * width * i) (8 * length bytes - kept) bits in
    let ends = chunk_ends width pruned kept bytes i held lt in
    let long : length (drop (i * width) bytes) ≡ length bytes - i * width = length-drop (i * width) bytes in
    sym (sym (chunk_of-padded width zeros.0 (drop (8 * width * i) bits))
    ∙ ap (chunk_of width) (sym zeros.1 ∙ ap (drop (8 * width * i)) (sym (padded width pruned kept bytes held))
    ∙ ap (λ n. drop n (bits_in bytes)) (eights width i) ∙ drop-bits_in (i * width) bytes)
    ∙ chunk_of-bits_in width (drop (i * width) bytes) (omega (arith, long, ends))
    (λ k within. subst (λ byte. byte < 256) (sym (get_or-drop (i * width) bytes k 0)) (small (i * width + k) (omega (arith, long, ends)))))

-- what is held after a change
pub record Holds (width pruned kept : ℕ) (bytes : List ℕ) (bits : List Bool) : Type 0 where
  pub held : IsHeld width pruned kept bytes
  pub bits_are : take kept (bits_in bytes) ≡ bits

-- one bit more, where the bytes have no room for it, and where they have
pub push_full : (width pruned kept : ℕ) (bytes more : List ℕ) (bit : Bool) → IsHeld width pruned kept bytes
    → 8 * width * pruned + kept < 2 ^ 62 → kept ≡ 8 * length bytes
    → bits_in more ≡ bits_in bytes ++ bit ∷ replicate (8 * width - 1) false → length more ≡ length bytes + width
    → Holds width pruned (kept + 1) more (take kept (bits_in bytes) ++ bit ∷ [])
push_full width pruned kept bytes more bit held few full are long =
    let some = wide-some width held.wide in
    let all : length (bits_in bytes) ≡ kept = omega (arith, length-bits_in bytes, full) in
    let tail = bit ∷ replicate (8 * width - 1) false in
    record {
      held = record {
        wide = held.wide;
        few = omega (arith, few);
        low = held.low;
        count = suc held.count;
        counted = omega (arith, long, held.counted);
        enough = omega (arith, long, full, some);
        tight = omega (arith, long, full, some);
        zeros = ap (drop (kept + 1)) are
            ∙ sym (drop-drop 1 kept (bits_in bytes ++ tail)) ∙ ap (drop 1) (drop_at (bits_in bytes) tail kept all)
            ∙ ap (λ n. replicate n false) (omega (arith, long, full, some));
      };
      bits_are = ap (take (kept + 1)) are
          ∙ ap (λ bits. take (kept + 1) bits) (sym (append_assoc (bits_in bytes) (bit ∷ []) (replicate (8 * width - 1) false)))
          ∙ take_at (bits_in bytes ++ bit ∷ []) (replicate (8 * width - 1) false) (kept + 1)
          (length-append (bits_in bytes) (bit ∷ []) ∙ ap (λ n. n + 1) all)
          ∙ ap (λ bits. bits ++ bit ∷ []) (sym (take_all kept (bits_in bytes) (omega (arith, all))));
    }

zero_first : (n : ℕ) → get_or (replicate n false) 0 false ≡ false
zero_first zero = refl
zero_first (suc n) = refl

-- what stands after the bits is not set
pub zero_after : (width pruned kept : ℕ) (bytes : List ℕ) → IsHeld width pruned kept bytes → get_or (bits_in bytes) kept false ≡ false
zero_after width pruned kept bytes held =
    ap (λ i. get_or (bits_in bytes) i false) (omega arith) ∙ sym (get_or-drop kept (bits_in bytes) 0 false)
    ∙ ap (λ bits. get_or bits 0 false) held.zeros ∙ zero_first (8 * length bytes - kept)

pub push_within : (width pruned kept : ℕ) (bytes more : List ℕ) (bit : Bool) → IsHeld width pruned kept bytes
    → 8 * width * pruned + kept < 2 ^ 62 → kept < 8 * length bytes
    → bits_in more ≡ slice_set (bits_in bytes) kept bit → length more ≡ length bytes
    → Holds width pruned (kept + 1) more (take kept (bits_in bytes) ++ bit ∷ [])
push_within width pruned kept bytes more bit held few within are long =
    let some = wide-some width held.wide in
    let inside : kept < length (bits_in bytes) = omega (arith, length-bits_in bytes, within) in
    record {
      held = record {
        wide = held.wide;
        few = omega (arith, few);
        low = held.low;
        count = held.count;
        counted = long ∙ held.counted;
        enough = omega (arith, long, within);
        tight = omega (arith, long, held.tight);
        zeros = ap (drop (kept + 1)) are ∙ drop-set-lt (kept + 1) (bits_in bytes) kept bit (omega arith)
            ∙ sym (drop-drop 1 kept (bits_in bytes)) ∙ ap (drop 1) held.zeros
            ∙ drop-replicate 1 (8 * length bytes - kept) false
            ∙ ap (λ n. replicate n false) (omega (arith, long));
      };
      bits_are = ap (take (kept + 1)) are ∙ take_more_set (bits_in bytes) kept bit inside;
    }

-- a bit that is set or cleared
take_set_below : (n : ℕ) (bits : List Bool) (at : ℕ) (bit : Bool) → at < n → take n (slice_set bits at bit) ≡ slice_set (take n bits) at bit
take_set_below zero bits at bit lt = absurd (omega arith)
take_set_below (suc n) [] at bit lt = refl
take_set_below (suc n) (first ∷ bits) zero bit lt = refl
take_set_below (suc n) (first ∷ bits) (suc at) bit lt = ap (λ rest. first ∷ rest) (take_set_below n bits at bit (omega arith))

pub set_within : (width pruned kept : ℕ) (bytes more : List ℕ) (at : ℕ) (bit : Bool) → IsHeld width pruned kept bytes → at < kept
    → bits_in more ≡ slice_set (bits_in bytes) at bit → length more ≡ length bytes
    → Holds width pruned kept more (slice_set (take kept (bits_in bytes)) at bit)
set_within width pruned kept bytes more at bit held lt are long = record {
  held = record {
    wide = held.wide;
    few = held.few;
    low = held.low;
    count = held.count;
    counted = long ∙ held.counted;
    enough = omega (arith, long, held.enough);
    tight = omega (arith, long, held.tight);
    zeros = ap (drop kept) are ∙ drop-set-lt kept (bits_in bytes) at bit lt ∙ held.zeros
        ∙ ap (λ n. replicate (8 * n - kept) false) (sym long);
  };
  bits_are = ap (take kept) are ∙ take_set_below kept (bits_in bytes) at bit lt;
}

-- the last bit is taken away
pub take_take : {A : Type 0} (m n : ℕ) (xs : List A) → m ≤ n → take m (take n xs) ≡ take m xs
take_take zero n xs le = refl
take_take (suc m) zero xs le = absurd (omega (arith, le))
take_take (suc m) (suc n) [] le = refl
take_take (suc m) (suc n) (x ∷ xs) le = ap (λ rest. x ∷ rest) (take_take m n xs (omega (arith, le)))

one_less : (width left count : ℕ) → 1 ≤ width → left + width ≡ width * count → (before : ℕ) × (left ≡ width * before)
one_less width left zero some is = absurd (omega (arith, some, is))
one_less width left (suc count) some is = (count, omega (arith, is))

zeros_more : (room same kept : ℕ) → same ≡ room → 0 < kept → kept ≤ room → suc (room - kept) ≡ same - (kept - 1)
zeros_more room same kept is some enough = omega (arith, is, some, enough)

drop_cleared : (n : ℕ) (bits : List Bool) → n < length bits → drop n (slice_set bits n false) ≡ false ∷ drop (suc n) bits
drop_cleared n [] lt = absurd (omega (arith, lt))
drop_cleared zero (bit ∷ bits) lt = refl
drop_cleared (suc n) (bit ∷ bits) lt = drop_cleared n bits (omega (arith, lt))

pub some_chunk : (width pruned kept : ℕ) (bytes : List ℕ) → IsHeld width pruned kept bytes → 0 < kept → width ≤ length bytes
some_chunk width pruned kept bytes held some = by held.count held.counted
  where
    by : (count : ℕ) → length bytes ≡ width * count → width ≤ length bytes
    by zero is = absurd (omega (arith, is, held.enough, some))
    by (suc count) is = omega (arith, is)

-- its chunk with it, where it is the only bit there
pub pop_chunk : (width pruned kept : ℕ) (bytes more : List ℕ) (left : ℕ) → IsHeld width pruned kept bytes → 0 < kept
    → left + width ≡ length bytes → kept - 1 ≡ 8 * left → more ≡ take left bytes
    → Holds width pruned (kept - 1) more (take (kept - 1) (take kept (bits_in bytes)))
pop_chunk width pruned kept bytes more left held some_bit all alone are =
    let some = wide-some width held.wide in
    let long : length more ≡ left = ap length are ∙ length-take-le left bytes (omega (arith, all)) in
    let before = one_less width left held.count some (omega (arith, all, held.counted)) in
    let reach : length (bits_in more) ≡ kept - 1 = omega (arith, length-bits_in more, long, alone) in
    let fewer_bits : kept - 1 ≤ kept = omega arith in
    let room : 0 ≡ 8 * length more - (kept - 1) = omega (arith, long, alone) in
    record {
      held = record {
        wide = held.wide;
        few = omega (arith, held.few);
        low = held.low;
        count = before.0;
        counted = omega (arith, long, before.1);
        enough = omega (arith, long, alone);
        tight = omega (arith, long, alone, some);
        zeros = drop_all (kept - 1) (bits_in more) (omega (arith, reach))
            ∙ ap (λ n. replicate n false) room;
      };
      bits_are = take_all (kept - 1) (bits_in more) (omega (arith, reach))
          ∙ sym (take_take (kept - 1) kept (bits_in bytes) fewer_bits
          ∙ ap (take (kept - 1)) (bits_in-front left bytes ∙ ap (λ front. bits_in front ++ bits_in (drop left bytes)) (sym are))
          ∙ take_at (bits_in more) (bits_in (drop left bytes)) (kept - 1) reach);
    }

-- alone, where there are others
pub pop_bit : (width pruned kept : ℕ) (bytes more : List ℕ) (left : ℕ) → IsHeld width pruned kept bytes → 0 < kept
    → left + width ≡ length bytes → kept - 1 ≢ 8 * left → bits_in more ≡ slice_set (bits_in bytes) (kept - 1) false
    → length more ≡ length bytes → Holds width pruned (kept - 1) more (take (kept - 1) (take kept (bits_in bytes)))
pop_bit width pruned kept bytes more left held some_bit all others are long =
    let past : 8 * left < kept - 1 = omega (arith, held.tight, all, some_bit, others) in
    let within : kept - 1 < length (bits_in bytes) = omega (arith, length-bits_in bytes, held.enough, some_bit) in
    let next : suc (kept - 1) ≡ kept = omega (arith, some_bit) in
    let fewer_bits : kept - 1 ≤ kept = omega arith in
    record {
      held = record {
        wide = held.wide;
        few = omega (arith, held.few);
        low = held.low;
        count = held.count;
        counted = long ∙ held.counted;
        enough = omega (arith, long, held.enough);
        tight = omega (arith, long, all, past);
        zeros = ap (drop (kept - 1)) are ∙ drop_cleared (kept - 1) (bits_in bytes) within
            ∙ ap (λ n. false ∷ drop n (bits_in bytes)) next ∙ ap (λ rest. false ∷ rest) held.zeros
            ∙ ap (λ n. replicate n false) (zeros_more (8 * length bytes) (8 * length more) kept (omega (arith, long)) some_bit held.enough);
      };
      bits_are = ap (take (kept - 1)) are ∙ take-set-le (kept - 1) (bits_in bytes) (kept - 1) false (omega arith)
          ∙ sym (take_take (kept - 1) kept (bits_in bytes) fewer_bits);
    }

fewer : (width i count : ℕ) → width * i ≤ width * count → width * (count - i) ≡ width * count - width * i
fewer width zero count le = let whole : count - 0 ≡ count = omega arith in omega (arith, ap (λ n. width * n) whole)
fewer width (suc i) zero le = let none : 0 - suc i ≡ 0 = omega arith in omega (arith, ap (λ n. width * n) none, le)
fewer width (suc i) (suc count) le =
    let same : suc count - suc i ≡ count - i = omega arith in
    omega (arith, fewer width i count (omega arith), ap (λ n. width * n) same)

pub prune_low : (width pruned kept : ℕ) (bytes : List ℕ) (chunks : ℕ) → IsHeld width pruned kept bytes → 8 * width * chunks ≤ kept
    → pruned + chunks ≤ 2 ^ 62
prune_low width pruned kept bytes chunks held few =
    let some = wide-some width held.wide in
    let before = mul-le pruned 1 pruned width (omega arith) some in
    let more = mul-le chunks 1 chunks width (omega arith) some in
    omega (arith, held.few, few, eights width pruned, eights width chunks, before, more)

-- chunks that are pruned
pub prune_front : (width pruned kept : ℕ) (bytes more : List ℕ) (chunks : ℕ) → IsHeld width pruned kept bytes
    → 8 * width * chunks ≤ kept → pruned + chunks ≤ 2 ^ 62 → more ≡ drop (chunks * width) bytes
    → Holds width (pruned + chunks) (kept - 8 * (chunks * width)) more (drop (8 * width * chunks) (take kept (bits_in bytes)))
prune_front width pruned kept bytes more chunks held few low are =
    let dropped = 8 * (chunks * width) in
    let same : 8 * width * chunks ≡ dropped = eights width chunks in
    let long : length more ≡ length bytes - chunks * width = ap length are ∙ length-drop (chunks * width) bytes in
    let left : 8 * length more ≡ 8 * length bytes - dropped = omega (arith, long) in
    let those : bits_in more ≡ drop dropped (bits_in bytes) = ap bits_in are ∙ sym (drop-bits_in (chunks * width) bytes) in
    let whole : dropped + (kept - dropped) ≡ kept = omega (arith, same) in
    let reach : width * chunks ≤ width * held.count =
    omega (arith, same, held.enough, held.counted, mul_comm width chunks) in
    record {
      held = record {
        wide = held.wide;
        few = omega (arith, held.few, same, mul-add (8 * width) pruned chunks);
        low = low;
        count = held.count - chunks;
        counted = omega (arith, long, held.counted, fewer width chunks held.count reach, mul_comm width chunks);
        enough = omega (arith, left, held.enough, same);
        tight = omega (arith, left, held.tight, same);
        zeros = ap (drop (kept - dropped)) those ∙ drop-drop (kept - dropped) dropped (bits_in bytes)
            ∙ ap (λ n. drop n (bits_in bytes)) whole ∙ held.zeros ∙ ap (λ n. replicate n false) (omega (arith, left, same));
      };
      bits_are = ap (take (kept - dropped)) those ∙ sym (drop-take dropped (kept - dropped) (bits_in bytes))
          ∙ ap (λ n. drop dropped (take n (bits_in bytes))) whole
          ∙ ap (λ n. drop n (take kept (bits_in bytes))) (sym same);
    }

-- what contracts see of what is held
abbrev pub seen : ℕ → ℕ → List ℕ → Bits
seen pruned kept bytes = record { pruned = pruned; kept = take kept (bits_in bytes) }

pub few_held : (width pruned kept : ℕ) (bytes : List ℕ) (bits : Bits) → IsHeld width pruned kept bytes → seen pruned kept bytes ≡ bits
    → bit_count width bits < 2 ^ 62 → 8 * width * pruned + kept < 2 ^ 62
few_held width pruned kept bytes bits held is few =
    omega (arith, subst (λ b. bit_count width b < 2 ^ 62) (sym is) few, held-length width pruned kept bytes held)

-- the last chunk: the bytes end with it
pub last_full : (width count : ℕ) (kept : List Bool) → 1 ≤ width → length kept ≡ 8 * width * suc count
    → last_chunk width kept ≡ (chunk_at width kept count, 8 * width)
last_full width count kept some is =
    let rest : length kept % (8 * width) ≡ 0 =
    ap (λ n. n % (8 * width)) (is ∙ mul_comm (8 * width) (suc count) ∙ omega arith) ∙ mod-mul-add (suc count) (8 * width) 0 (omega (arith, some)) in
    let before : length kept - 8 * width ≡ 8 * width * count = omega (arith, is) in
    cond-false (eqb (length kept) 0) _ _ (ne_eqb (length kept) 0 (λ none. let clash = none in omega (arith, is, some)))
    ∙ cond-true (eqb (length kept % (8 * width)) 0) _ _ (eq-eqb _ 0 rest)
    ∙ ap (λ n. (chunk_of width (drop n kept), 8 * width)) before

pub last_partial : (width count more : ℕ) (kept : List Bool) → 0 < more → more < 8 * width → length kept ≡ 8 * width * count + more
    → last_chunk width kept ≡ (chunk_at width kept count, more)
last_partial width count more kept some few is =
    let as_rows : length kept ≡ count * (8 * width) + more = omega (arith, is, mul_comm (8 * width) count) in
    let rest : length kept % (8 * width) ≡ more = ap (λ n. n % (8 * width)) as_rows ∙ mod-mul-add count (8 * width) more few in
    let full : length kept / (8 * width) ≡ count = ap (λ n. n / (8 * width)) as_rows ∙ div-mul-add count (8 * width) more few in
    cond-false (eqb (length kept) 0) _ _ (ne_eqb (length kept) 0 (λ none. let clash = none in omega (arith, is, some)))
    ∙ cond-false (eqb (length kept % (8 * width)) 0) _ _ (ne_eqb _ 0 (λ none. let clash = none in omega (arith, rest, some)))
    ∙ ap₂ (λ index n. (chunk_at width kept index, n)) full rest

pub last_held : (width pruned kept : ℕ) (bytes : List ℕ) → IsHeld width pruned kept bytes → 0 < kept
    → ((k : ℕ) → k < length bytes → get_or bytes k 0 < 256)
    → (drop (length bytes - width) bytes, kept - 8 * (length bytes - width)) ≡ last_chunk width (take kept (bits_in bytes))
last_held width pruned kept bytes held some small = by held.count held.counted
  where
    by : (count : ℕ) → length bytes ≡ width * count
        → (drop (length bytes - width) bytes, kept - 8 * (length bytes - width)) ≡ last_chunk width (take kept (bits_in bytes))
    by zero is = let none = held.enough in absurd (omega (arith, is))
    by (suc count) is =
        let first : length bytes - width ≡ count * width = omega (arith, is, mul_comm width count) in
        let eight = eights width count in
        let long = held-length width pruned kept bytes held in
        let reaches : 8 * width * count < kept = omega (arith, eight, first, held.tight, is) in
        let tail : length (drop (count * width) bytes) ≡ width = omega (arith, length-drop (count * width) bytes, first, is) in
        let chunk : drop (length bytes - width) bytes ≡ chunk_at width (take kept (bits_in bytes)) count =
        ap (λ n. drop n bytes) first ∙ sym (take_all width (drop (count * width) bytes) (omega (arith, tail)))
        ∙ chunk_held width pruned kept bytes count held reaches small in
        let left : kept ≡ 8 * width * count + (kept - 8 * (length bytes - width)) = omega (arith, eight, first, reaches) in
        elim (cases_lt (kept - 8 * (length bytes - width)) (8 * width)) [
          | inl few ↦ ap (λ last. (last, kept - 8 * (length bytes - width))) chunk
              ∙ sym
              (last_partial width count (kept - 8 * (length bytes - width)) (take kept (bits_in bytes)) (omega (arith, left, reaches)) few (long ∙ left))
          | inr many ↦
              let all : kept - 8 * (length bytes - width) ≡ 8 * width = omega (arith, many, held.enough, is, first, mul_comm width count) in
              ap₂ (λ last n. (last, n)) chunk all
              ∙ sym (last_full width count (take kept (bits_in bytes)) (wide-some width held.wide) (omega (arith, long, left, all)))
        ]
