use Rattle.std.proofs.Common.{◌≡◌, ◌-◌, ◌+◌, ◌∙◌, ap, length, drop, take, arith}
use Rattle.std.proofs.lemmas.List.{length-drop, take_rest}
use Rattle.state_ops.specs.Operation.{meaning_of}
use Rattle.auth_store_parts.specs.History as spec
use Rattle.auth_store_parts.specs.Places.{placed}
use Rattle.auth_store_parts.proofs.Runs.{placed-parts}
use Rattle.auth_store_parts.proofs.history.places.Places.follow_all.Goals as goal

pub loop-rest-preserved : goal.loop-rest-preserved
loop-rest-preserved g c =
    let meaning = meaning_of g.K.Write.encoding g.V.Write.encoding in
    let rest = c.loop-rest.rest.now in
    let taken = c.in_ok-taken.taken in
    let after = c.follow_front.new.self in
    let location = c.loop-rest.location in
    let left : take (length rest - taken) (drop taken rest) ≡ drop taken rest = take_rest rest taken in
    let long : length (take (length rest - taken) (drop taken rest)) ≡ length rest - taken =
    ap length left ∙ length-drop taken rest in
    record {
      stands = omega (arith, long, c.in_ok-taken.ensures.taken.1, c.loop-rest.invariant.stands);
      placed = ap (λ l. placed (location + taken) after (spec.meanings g.K.Write.encoding g.V.Write.encoding l)) left
          ∙ (ap (λ places. placed (location + taken) places
          (spec.meanings g.K.Write.encoding g.V.Write.encoding (drop taken rest))) c.in_ok-taken.ensures.placed
          ∙ (placed-parts meaning taken location c.loop-rest.self rest ∙ c.loop-rest.invariant.placed));
    }
