use Rattle.std.proofs.Common.{◌∙◌, ◌∷◌, []}
use Rattle.state_ops.specs.Operation.{meaning_of}
use Rattle.auth_store_parts.specs.Map.{state_of}
use Rattle.auth_store_parts.proofs.Runs.{located_keys-more}
use Rattle.auth_store_parts.proofs.history.places.located_keys.Goals as goal

pub loop-index-preserved : goal.loop-index-preserved
loop-index-preserved g c =
    let key = g.K.Write.encoding in
    located_keys-more (meaning_of key g.V.Write.encoding) c.args.operations.now c.args.start c.loop-index.index
    c.index-operations-index.result (state_of key (λ n. n ∷ []) c.loop-index.keys.items)
    (state_of key (λ n. n ∷ []) c.push_located_key.new.keys.items) c.loop-index-test.true c.index-operations-index.is
    c.in_ok-push_located_key.ensures
    ∙ c.loop-index.invariant
