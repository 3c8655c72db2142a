-- Each byte of a file that is resized, or over which bytes are laid.
use Rattle.std.proofs.Common.{◌≡◌, ℕ, ◌+◌, ◌-◌, ◌<◌, ◌≤◌, max, List}
use Rattle.std.proofs.Common.{◌++◌, length, get_or, take, drop, replicate, sym, ◌∙◌, ap}
use Rattle.std.proofs.Common.{⊎_elim, refl, arith}
use Rattle.std.proofs.lemmas.List.{length-append, length-take, length-drop, length-replicate, get_or_append_left, get_or-append_right, get_or-take, get_or-drop}
use Rattle.std.proofs.lemmas.List.{get_or-replicate, get_or_past, ext_get_or, append-nil}
use Rattle.std.proofs.lemmas.Bool.{cases_lt}
use Rattle.paged_blob_parts.specs.Calls.{resized, with_bytes}

pub length-resized : (size : ℕ) (file : List ℕ) → length (resized size file) ≡ size
unfolding resized
length-resized size file = simp (length-append, length-take, length-replicate) (omega arith)

zeros : (n i : ℕ) → get_or {A = ℕ} (replicate n 0) i 0 ≡ 0
zeros n i =
    ⊎_elim
    (λ below. get_or-replicate n i 0 0 below)
    (λ past. get_or_past (replicate n 0) i 0 (omega (arith, length-replicate {A = ℕ} n 0, past)))
    (cases_lt i n)

pub resized_in : (size : ℕ) (file : List ℕ) (i : ℕ) → i < size → get_or (resized size file) i 0 ≡ get_or file i 0
unfolding resized
resized_in size file i below =
    ⊎_elim
    (λ here. get_or_append_left (take size file) _ 0 i (omega (arith, length-take size file, here)) ∙ get_or-take size file i 0 below)
    (λ past. get_or-append_right (take size file) _ (length (take size file)) i 0 refl (omega (arith, length-take size file, past))
    ∙ zeros (size - length file) (i - length (take size file)) ∙ sym (get_or_past file i 0 past))
    (cases_lt i (length file))

pub resized_out : (size : ℕ) (file : List ℕ) (i : ℕ) → size ≤ i → get_or (resized size file) i 0 ≡ 0
resized_out size file i past = get_or_past (resized size file) i 0 (omega (arith, length-resized size file))

pub length-with_bytes : (offset : ℕ) (bytes file : List ℕ) → length (with_bytes offset bytes file) ≡ max (length file) (offset + length bytes)
unfolding with_bytes
length-with_bytes offset bytes file = simp (length-append, length-resized, length-drop) (omega arith)

behind : (offset : ℕ) (bytes file : List ℕ) → List ℕ
behind offset bytes file = bytes ++ drop (offset + length bytes) file

laid : (offset : ℕ) (bytes file : List ℕ) (i : ℕ) → offset ≤ i
    → get_or (with_bytes offset bytes file) i 0 ≡ get_or (behind offset bytes file) (i - offset) 0
unfolding with_bytes behind
laid offset bytes file i from = get_or-append_right (resized offset file) (behind offset bytes file) offset i 0 (length-resized offset file) from

pub with_bytes_in : (offset : ℕ) (bytes file : List ℕ) (i : ℕ) → offset ≤ i → i < offset + length bytes
    → get_or (with_bytes offset bytes file) i 0 ≡ get_or bytes (i - offset) 0
unfolding behind
with_bytes_in offset bytes file i from below =
    laid offset bytes file i from ∙ get_or_append_left bytes (drop (offset + length bytes) file) 0 (i - offset) (omega (arith, from, below))

pub with_bytes_before : (offset : ℕ) (bytes file : List ℕ) (i : ℕ) → i < offset → get_or (with_bytes offset bytes file) i 0 ≡ get_or file i 0
unfolding with_bytes
with_bytes_before offset bytes file i before =
    get_or_append_left (resized offset file) _ 0 i (omega (arith, length-resized offset file, before)) ∙ resized_in offset file i before

pub with_bytes_behind : (offset : ℕ) (bytes file : List ℕ) (i : ℕ) → offset + length bytes ≤ i
    → get_or (with_bytes offset bytes file) i 0 ≡ get_or file i 0
unfolding behind
with_bytes_behind offset bytes file i past =
    laid offset bytes file i (omega (arith, past))
    ∙ get_or-append_right bytes (drop (offset + length bytes) file) (length bytes) (i - offset) 0 refl (omega (arith, past))
    ∙ get_or-drop (offset + length bytes) file (i - offset - length bytes) 0
    ∙ ap (λ k. get_or file k 0) (omega (arith, past))

-- bytes that are laid over a file long enough leave what is before them and behind them
pub with_bytes-long : (offset : ℕ) (bytes file : List ℕ) → offset ≤ length file
    → with_bytes offset bytes file ≡ take offset file ++ (bytes ++ drop (offset + length bytes) file)
unfolding with_bytes resized
with_bytes-long offset bytes file long =
    let none : offset - length file ≡ 0 = omega (arith, long) in
    ap (λ n. take offset file ++ replicate n 0 ++ (bytes ++ drop (offset + length bytes) file)) none
    ∙ ap (λ l. l ++ (bytes ++ drop (offset + length bytes) file)) (append-nil (take offset file))

-- growing a file first changes nothing
pub with_bytes-resized : (offset : ℕ) (bytes file : List ℕ) → length file ≤ offset + length bytes
    → with_bytes offset bytes (resized (offset + length bytes) file) ≡ with_bytes offset bytes file
with_bytes-resized offset bytes file short =
    let end = offset + length bytes in
    let grown = resized end file in
    let long = length-with_bytes offset bytes grown in
    let near = length-with_bytes offset bytes file in
    let size = length-resized end file in
    ext_get_or 0 (with_bytes offset bytes grown) (with_bytes offset bytes file) (omega (arith, long, near, size, short))
    (λ i below. ⊎_elim
    (λ before. with_bytes_before offset bytes grown i before ∙ resized_in end file i (omega (arith, before))
    ∙ sym (with_bytes_before offset bytes file i before))
    (λ from.
    let inside : i < end = omega (arith, below, long, size) in
    with_bytes_in offset bytes grown i from inside ∙ sym (with_bytes_in offset bytes file i from inside))
    (cases_lt i offset))
