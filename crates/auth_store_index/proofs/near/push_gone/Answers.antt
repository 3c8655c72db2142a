use Rattle.std.proofs.Common.{◌∙◌, ap}
use Rattle.std.proofs.lemmas.List.{map-append}
use Rattle.state_ops.specs.Operation.{meaning_of}
use Rattle.auth_store_parts.specs.History as spec
use Rattle.auth_store_index.specs.Laws.NearCode.{goes_passed}
use Rattle.auth_store_index.proofs.near.push_gone.Goals as goal

pub loop-key-preserved : goal.loop-key-preserved
loop-key-preserved g c value =
    let key = g.K.Write.encoding in
    let says = g.V.Write.encoding in
    goes_passed key value (spec.meanings key says c.loop-key.out.items) (spec.meanings key says c.push.new.out.items) _
    c.in-Some.key.now c.in_ok-key.key c.in-Some.field-0-1.now c.loop-key.key-iterator c.next.new.self
    (ap (spec.meanings key says) c.in_ok-push.ensures ∙ map-append (meaning_of key says) c.loop-key.out.items _)
    (g.met.K.Faithful.copied c.in-Some.key.now c.in_ok-key.key c.in_ok-key.ensures.cases)
    c.in-Some.ensures.steps (c.loop-key.invariant value)
