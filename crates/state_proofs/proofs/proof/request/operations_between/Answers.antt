use Rattle.std.proofs.Common.{◌≡◌, ◌<◌, ◌≤◌, ◌+◌, ◌-◌, ℕ, List, length, take, drop, map, sym, ◌∙◌, ap, subst, arith}
use Rattle.std.specs.Prelude.{OnOk}
use Rattle.std.specs.List.{AllByRecursion, range_with_len}
use Rattle.state_proofs.specs.Requests.{AreAscending, at_places}
use Rattle.state_proofs.proofs.RequestLemmas.{ascending, all_inside, part_of_list, on_ok_as, ok_with}
use Rattle.state_proofs.proofs.proof.request.operations_between.Goals as goal

pub read_many-requires : goal.read_many-requires
read_many-requires g c =
    subst (AreAscending 0) (sym (c.deref.ensures.value ∙ c.in_ok-places.ensures)) (ascending (c.args.stop - c.args.start) c.args.start 0 (omega arith))

there : (g : _) (c : goal.After-drop-places g)
    → OnOk c.read_many.result (c.args.start + (c.args.stop - c.args.start) ≤ length (g.L.LogRead.operations c.args.log.now))
there g c =
    let log : List (List ℕ) = g.L.LogRead.operations c.args.log.now in
    let places : c.deref.result.now ≡ range_with_len c.args.start (c.args.stop - c.args.start) = c.deref.ensures.value ∙ c.in_ok-places.ensures in
    on_ok_as c.read_many.result (AllByRecursion (λ place. place < length log) c.deref.result.now)
    (c.args.start + (c.args.stop - c.args.start) ≤ length log) c.read_many.ensures.there
    (λ all. all_inside (c.args.stop - c.args.start) c.args.start (length log) (omega (arith, c.requires))
    (subst (AllByRecursion (λ place. place < length log)) places all))

pub returns-clause-there : goal.returns-clause-there
returns-clause-there g c =
    let log : List (List ℕ) = g.L.LogRead.operations c.args.log.now in
    on_ok_as c.read_many.result (c.args.start + (c.args.stop - c.args.start) ≤ length log) (c.args.stop ≤ length log) (there g c)
    (λ le. omega (arith, le, c.requires))

pub returns-clause-found : goal.returns-clause-found
returns-clause-found g c =
    let log : List (List ℕ) = g.L.LogRead.operations c.args.log.now in
    let count : ℕ = c.args.stop - c.args.start in
    let places : c.deref.result.now ≡ range_with_len c.args.start count = c.deref.ensures.value ∙ c.in_ok-places.ensures in
    ok_with c.read_many.result (λ found. map g.L.Operation.Write.encoding found.items ≡ at_places log c.deref.result.now)
    (c.args.start + count ≤ length log) (λ found. map g.L.Operation.Write.encoding found.items ≡ take count (drop c.args.start log))
    c.read_many.ensures.found (there g c)
    (λ found is le. is ∙ ap (at_places log) places ∙ part_of_list log count c.args.start le)
