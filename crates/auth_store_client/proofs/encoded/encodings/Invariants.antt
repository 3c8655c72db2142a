use Rattle.std.proofs.Common.{◌≡◌, map, take}
use Rattle.std.specs.List.{AllByRecursion}
use Rattle.state_ops.specs.Operation.{fixed_encoding, meaning_of}
use Rattle.state_ops.specs.Reading.{IsField, IsOfFields}
use Rattle.auth_store_client.proofs.encoded.encodings.Given as goal

abbrev pub invariant-loop-operation : goal.invariant-loop-operation
invariant-loop-operation g l = record {
  encoded : map (λ e. e.items) l.found.items ≡ map (fixed_encoding g.K.FixedSize.SIZE g.V.FixedSize.SIZE)
      (map (meaning_of g.K.Write.encoding g.V.Write.encoding) (take l.operation-index l.operations));
  fields : AllByRecursion (IsOfFields (IsField (g.K.Read.after tt) g.K.FixedSize.SIZE) (IsField (g.V.Read.after tt) g.V.FixedSize.SIZE))
      (map (meaning_of g.K.Write.encoding g.V.Write.encoding) (take l.operation-index l.operations));
}
