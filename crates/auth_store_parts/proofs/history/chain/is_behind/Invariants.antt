use Rattle.std.proofs.Common.{◌≡◌, ◌-◌, ◌≤◌, take, drop, length, option_map, List}
use Rattle.state_ops.specs.Operation.{Operation}
use Rattle.auth_store_parts.specs.Map.{Map}
use Rattle.auth_store_parts.specs.Chains as chains
use Rattle.auth_store_parts.specs.Chains.{Pointer}
use Rattle.auth_store_parts.specs.History as spec
use Rattle.auth_store_parts.specs.Ranked.{AreNamed}
use Rattle.auth_store_parts.proofs.history.chain.is_behind.Given as goal

-- the walk over all of the batch goes on with what is left, and the deletes that are left have their keys
abbrev pub invariant-loop-at : goal.invariant-loop-at
invariant-loop-at g l =
    let key = g.K.Write.encoding in
    let meanings = spec.meanings key g.V.Write.encoding in
    let old : Map = spec.latest_map (spec.history_of (meanings l.log)) in
    let said : List Operation = meanings l.batch in
    let first_old : Pointer = option_map (λ k. key k.now) l.first in
    let first_new : Pointer = option_map (λ k. key k.now) l.first_new in
    record {
      goes : chains.walk old first_old first_new (meanings (drop l.at l.updates)) (meanings l.deletes)
          (option_map (λ k. key k.now) l.pointers.0) (option_map (λ k. key k.now) l.pointers.1)
          ≡ chains.walk old first_old first_new (drop (chains.deletes_in_front said) said)
          (take (chains.deletes_in_front said) said) first_old first_new;
      fits : length l.deletes ≤ l.behind_deletes;
      named : AreNamed l.ranked.names (l.behind_deletes - length l.deletes) (meanings l.deletes);
    }
