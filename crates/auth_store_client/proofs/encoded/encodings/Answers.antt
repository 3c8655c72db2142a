use Rattle.std.proofs.Common.{◌≡◌, ℕ, ◌∷◌, [], ◌++◌, ◌+◌, ◌∙◌, ap, sym, subst, List, map, take}
use Rattle.std.proofs.lemmas.List.{map_more}
use Rattle.std.specs.List.{AllByRecursion}
use Rattle.state_ops.specs.Operation.{Operation, meaning_of, fixed_encoding}
use Rattle.state_ops.specs.Reading.{IsField, IsOfFields}
use Rattle.auth_store_client.proofs.Lists.{each_more, made_more}
use Rattle.auth_store_client.proofs.encoded.encodings.Goals as goal

pub loop-operation-preserved : goal.loop-operation-preserved
loop-operation-preserved g c =
    let Named : Operation → Type 0 =
    IsOfFields (IsField (g.K.Read.after tt) g.K.FixedSize.SIZE) (IsField (g.V.Read.after tt) g.V.FixedSize.SIZE) in
    let encoding : Operation → List ℕ = fixed_encoding g.K.FixedSize.SIZE g.V.FixedSize.SIZE in
    let meaning = meaning_of g.K.Write.encoding g.V.Write.encoding in
    let i = c.loop-operation.operation-index in
    let operation : Operation = meaning c.operation-item.result in
    let log : List Operation = map meaning (take i c.args.operations.now) in
    let more : List Operation = map meaning (take (i + 1) c.args.operations.now) in
    let is : more ≡ log ++ operation ∷ [] = map_more meaning c.args.operations.now i c.operation-item.result
    c.loop-operation-test.true ∙ ap (λ x. log ++ meaning x ∷ []) (sym c.operation-item.is) in
    record {
      encoded = ap (map (λ e. e.items)) c.in_ok-push.ensures.items
          ∙ (made_more (λ e. e.items) encoding c.loop-operation.found.items c.in_ok-bytes.bytes log operation c.loop-operation.invariant.encoded
          c.in_ok-bytes.ensures.bytes ∙ ap (map encoding) (sym is));
      fields = subst (AllByRecursion Named) (sym is)
          (each_more Named log operation c.loop-operation.invariant.fields c.in_ok-bytes.ensures.fields);
    }
