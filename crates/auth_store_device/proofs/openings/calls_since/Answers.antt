use Rattle.std.proofs.Common.{rules, arith, ◌≡◌, ◌+◌, ◌-◌, ◌<◌, false, length, drop, reverse, sym, ◌∙◌, ap}
use Rattle.std.specs.List.{list_any}
use Rattle.paged_blob_parts.specs.Calls.{file_of}
use Rattle.auth_store_device.specs.Devices.{shown_file}
use Rattle.auth_store_device.specs.OpeningsCode.{file_from, is_base}
use Rattle.auth_store_device.specs.RecordsCode.{begins}
use Rattle.auth_store_device.proofs.Replays.{base-before, base-none, base-place}
use Rattle.auth_store_device.proofs.openings.calls_since.Goals as goal

pub returns-then-begins-clause-file : goal.returns-then-begins-clause-file
returns-then-begins-clause-file c =
    let all = c.args.earlier.now in
    let count = c.loop-count.count in
    let place = count - 1 in
    let some : place + 1 ≡ count = omega arith in
    let below : place < length all = omega arith in
    let none : list_any is_base (drop (place + 1) all) ≡ false = ap (λ n. list_any is_base (drop n all)) some ∙ c.loop-count.invariant.1 in
    base-place all place c.entry.result below c.entry.ensures (search rules) none
    ∙ ap (λ n. file_from (shown_file (file_of (reverse all)).base) (drop n all)) some
    ∙ ap (file_from (shown_file (file_of (reverse all)).base)) (sym c.behind.ensures)

pub returns-clause-file : goal.returns-clause-file
returns-clause-file c =
    let all = c.args.earlier.now in
    base-none all (search rules) ∙ ap (file_from (shown_file (file_of (reverse all)).base)) (sym c.behind-2.ensures)

pub loop-count-preserved : goal.loop-count-preserved
loop-count-preserved c =
    let all = c.args.earlier.now in
    let count = c.loop-count.count in
    let place = count - 1 in
    let some : place + 1 ≡ count = omega arith in
    let below : place < length all = omega arith in
    let none : begins c.entry.result ≡ false = search rules in (
      omega arith,
      base-before all place c.entry.result below c.entry.ensures none ∙ ap (λ n. list_any is_base (drop n all)) some ∙ c.loop-count.invariant.1,
    )
