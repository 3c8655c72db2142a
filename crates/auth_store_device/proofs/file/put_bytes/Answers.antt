use Rattle.std.proofs.Common.{rules, arith, ◌≡◌, ◌≤◌, ◌+◌, ◌++◌, ℕ, List, length, take, drop, ap, sym, ◌∙◌}
use Rattle.std.proofs.lemmas.List.{take_at}
use Rattle.paged_blob_parts.specs.Calls.{resized, with_bytes}
use Rattle.paged_blob_parts.proofs.Bytes.{length-resized, with_bytes-long, with_bytes-resized}
use Rattle.auth_store_device.proofs.file.put_bytes.Goals as goal

-- bytes that are written over a slice of the file
over : (offset : ℕ) (bytes file slice : List ℕ) → slice ≡ file → offset ≤ length file
    → take offset slice ++ (bytes ++ drop (offset + length bytes) slice) ≡ with_bytes offset bytes file
over offset bytes file slice is long =
    ap (λ d. take offset d ++ (bytes ++ drop (offset + length bytes) d)) is ∙ sym (with_bytes-long offset bytes file long)

pub returns-then-len-end-clause-ok : goal.returns-then-len-end-clause-ok
returns-then-len-end-clause-ok c =
    let file = c.args.file.now.items in
    let long : c.args.offset ≤ length file = search rules in
    take_at c.overwrite.new.file (drop (length c.overwrite.new.file) file) c.args.file.now.len (search rules) ∙ c.overwrite.ensures
    ∙ over c.args.offset c.args.bytes.now file c.deref_mut.result.now c.deref_mut.ensures.value long

pub overwrite-requires-2 : goal.overwrite-requires-2
overwrite-requires-2 c =
    let end = c.args.offset + length c.args.bytes.now in
    let grown : c.set_length.new.file.items ≡ resized end c.args.file.now.items = search rules in
    let size : length c.set_length.new.file.items ≡ end = ap length grown ∙ length-resized end c.args.file.now.items in
    let same : length c.deref_mut-2.result.now ≡ length c.set_length.new.file.items = ap length c.deref_mut-2.ensures.value in
    omega (arith, size, same)

pub returns-clause-ok : goal.returns-clause-ok
returns-clause-ok c =
    let file = c.args.file.now.items in
    let end = c.args.offset + length c.args.bytes.now in
    let next = c.set_length.new.file.items in
    let grown : next ≡ resized end file = search rules in
    let size : length next ≡ end = ap length grown ∙ length-resized end file in
    let short : length file ≤ end = search rules in
    take_at c.overwrite-2.new.file (drop (length c.overwrite-2.new.file) next) c.set_length.new.file.len (search rules) ∙ c.overwrite-2.ensures
    ∙ over c.args.offset c.args.bytes.now next c.deref_mut-2.result.now c.deref_mut-2.ensures.value (omega (arith, size))
    ∙ ap (with_bytes c.args.offset c.args.bytes.now) grown
    ∙ with_bytes-resized c.args.offset c.args.bytes.now file short
