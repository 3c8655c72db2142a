use Rattle.std.proofs.Common.{◌≡◌, ◌++◌, drop, flat_map}
use Rattle.auth_store_ledger.proofs.ledger.kept.joined.Given as goal

abbrev pub invariant-loop-part : goal.invariant-loop-part
invariant-loop-part l = l.bytes.items ++ flat_map (λ part. part.items) (drop l.part-index l.parts) ≡ flat_map (λ part. part.items) l.parts
