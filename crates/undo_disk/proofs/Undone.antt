-- A step that is undone leaves the file as it was before the call.
use Rattle.std.proofs.Common.{◌≡◌, ℕ, ◌+◌, ◌-◌, Bool, true, List, ◌∷◌, ◌++◌, length, take, drop, replicate}
use Rattle.std.proofs.Common.{sym, ◌∙◌, ap, ⊎_elim, refl, arith}
use Rattle.std.proofs.lemmas.Bool.{cases_lt}
use Rattle.std.proofs.lemmas.List.{append-nil, take_at, take_all, drop_at, take-append-le, take-append-drop, drop-drop, length-append}
use Rattle.paged_blob_parts.specs.Calls.{wrote, resized_to, resized, with_bytes}
use Rattle.paged_blob_parts.proofs.Bytes.{length-resized}
use Rattle.undo_disk.specs.Undone.{before_write, before_resize, calls_from}
use Rattle.undo_disk.specs.declared.step.Step.{Step}

-- what a resize leaves and what it cuts off
pub cut_and_joined : (size : ℕ) (file : List ℕ) → take (length file) (resized size file ++ drop size file) ≡ file
unfolding resized
cut_and_joined size file =
    ⊎_elim
    (λ longer.
    let none : size - length file ≡ 0 = omega (arith, longer) in
    ap (λ n. take (length file) ((take size file ++ replicate n 0) ++ drop size file)) none
    ∙ ap (λ l. take (length file) (l ++ drop size file)) (append-nil (take size file))
    ∙ ap (take (length file)) (take-append-drop size file) ∙ take_all (length file) file (omega arith))
    (λ shorter.
    let zeros = replicate (size - length file) 0 in
    ap (λ l. take (length file) ((l ++ zeros) ++ drop size file)) (take_all size file (omega (arith, shorter)))
    ∙ take-append-le (length file) (file ++ zeros) (drop size file) (omega (arith, length-append file zeros))
    ∙ take_at file zeros (length file) refl)
    (cases_lt size (length file))

pub resize_undone : (size : ℕ) (file : List ℕ) → before_resize (length file) (drop size file) (resized size file) ≡ file
unfolding before_resize
resize_undone size file = cut_and_joined size file

module _ (offset : ℕ) (bytes file : List ℕ) where
  -- the bytes of a write stand where it was made
  pub bytes_there : take (length bytes) (drop offset (with_bytes offset bytes file)) ≡ bytes
  unfolding with_bytes
  bytes_there =
      let rest = drop (offset + length bytes) file in
      ap (take (length bytes)) (drop_at (resized offset file) (bytes ++ rest) offset (length-resized offset file)) ∙ take_at bytes rest (length bytes) refl

  pub write_undone : before_write offset (length bytes) (length file) (take (length bytes) (drop offset file)) (with_bytes offset bytes file) ≡ file
  unfolding before_write with_bytes
  write_undone =
      let n = length bytes in
      let rest = drop (offset + n) file in
      let front = resized offset file in
      let all = front ++ (bytes ++ rest) in
      let first : take offset all ≡ front = take_at front (bytes ++ rest) offset (length-resized offset file) in
      let behind : drop (offset + n) all ≡ rest =
      sym (drop-drop n offset all) ∙ ap (drop n) (drop_at front (bytes ++ rest) offset (length-resized offset file)) ∙ drop_at bytes rest n refl in
      let lost : take n (drop offset file) ++ rest ≡ drop offset file =
      ap (λ l. take n (drop offset file) ++ l) (sym (drop-drop n offset file)) ∙ take-append-drop n (drop offset file) in
      ap (λ l. take (length file) (l ++ (take n (drop offset file) ++ drop (offset + n) all))) first
      ∙ ap (λ l. take (length file) (front ++ (take n (drop offset file) ++ l))) behind
      ∙ ap (λ l. take (length file) (front ++ l)) lost ∙ cut_and_joined offset file

-- a write is read off the file that it made, and behind it what was there before
pub write_read : (earlier : List Step) (offset n size : ℕ) (is_sync sync : Bool) (lost bytes file new : List ℕ) → is_sync ≡ sync → n ≡ length bytes
    → size ≡ length file → lost ≡ take n (drop offset file) → new ≡ with_bytes offset bytes file
    → wrote offset (take n (drop offset new)) is_sync true ∷ calls_from earlier (before_write offset n size lost new)
    ≡ wrote offset bytes sync true ∷ calls_from earlier file
write_read earlier offset n size is_sync sync lost bytes file new same n_is size_is lost_is new_is =
    let there : take n (drop offset new) ≡ bytes =
    ap (λ m. take m (drop offset new)) n_is ∙ ap (λ l. take (length bytes) (drop offset l)) new_is ∙ bytes_there offset bytes file in
    let lost_at : lost ≡ take (length bytes) (drop offset file) = lost_is ∙ ap (λ m. take m (drop offset file)) n_is in
    let undone : before_write offset n size lost new ≡ file =
    ap (λ m. before_write offset m size lost new) n_is ∙ ap (λ m. before_write offset (length bytes) m lost new) size_is
    ∙ ap (λ l. before_write offset (length bytes) (length file) l new) lost_at
    ∙ ap (before_write offset (length bytes) (length file) (take (length bytes) (drop offset file))) new_is ∙ write_undone offset bytes file in
    ap (λ b. wrote offset b is_sync true ∷ calls_from earlier (before_write offset n size lost new)) there
    ∙ ap (λ s. wrote offset bytes s true ∷ calls_from earlier (before_write offset n size lost new)) same
    ∙ ap (λ l. wrote offset bytes sync true ∷ calls_from earlier l) undone

-- so is a resize
pub resize_read : (earlier : List Step) (to size : ℕ) (lost file new : List ℕ) → size ≡ length file → lost ≡ drop to file
    → new ≡ resized to file
    → resized_to to true ∷ calls_from earlier (before_resize size lost new) ≡ resized_to to true ∷ calls_from earlier file
resize_read earlier to size lost file new size_is lost_is new_is =
    let undone : before_resize size lost new ≡ file =
    ap (λ m. before_resize m lost new) size_is ∙ ap (λ l. before_resize (length file) l new) lost_is
    ∙ ap (before_resize (length file) (drop to file)) new_is ∙ resize_undone to file in
    ap (λ l. resized_to to true ∷ calls_from earlier l) undone
