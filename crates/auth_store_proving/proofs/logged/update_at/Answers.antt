use Rattle.std.proofs.Common.{inl, inr, List, length, ap}
use Rattle.std.proofs.lemmas.Bool.{cases_lt}
use Rattle.std.proofs.lemmas.Option.{slice_get_past}
use Rattle.state_ops.specs.Operation.{Operation}
use Rattle.auth_store_ledger.specs.History.{update_fields}
use Rattle.auth_store_proving.proofs.logged.update_at.Goals as goal

pub read_operation-requires : goal.read_operation-requires
read_operation-requires g c =
    let log : List Operation = g.L.LoggedValues.log c.args.log.now in
    record {
      may = c.requires.may;
      within = elim (cases_lt c.args.location (length log)) [
        | inl lt ↦ lt
        | inr le ↦ absurd (c.requires.stands (ap update_fields (slice_get_past log c.args.location le)))
      ];
    }
