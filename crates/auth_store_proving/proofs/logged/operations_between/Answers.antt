use Rattle.std.proofs.Common.{◌≡◌, ℕ, ◌-◌, List, Some, [], ◌∷◌, ◌++◌, length, map, slice_get, take, drop, refl, sym, ◌∙◌, ap, arith}
use Rattle.std.proofs.lemmas.List.{map-append}
use Rattle.state_ops.specs.Operation.{Operation, meaning_of}
use Rattle.auth_store_ledger.specs.History.{meanings}
use Rattle.auth_store_proving.proofs.Answered.{item_more}
use Rattle.auth_store_ledger.specs.Laws.Reads.{passed_on, refused_behind}
use Rattle.auth_store_proving.proofs.logged.operations_between.Goals as goal

pub loop-location-init : goal.loop-location-init
loop-location-init g c =
    let none : c.args.start - c.args.start ≡ 0 = omega arith in
    record {
      read = ap (meanings g.K.Write.encoding g.V.Write.encoding) c.new-operations.ensures.items
          ∙ ap (λ (n : ℕ). take n (drop c.args.start (g.L.LoggedValues.log c.args.log.now))) (sym none);
      same = refl;
      leads = g.L.LoggedValues.none_leads c.args.log.now;
    }

pub read_operation-requires : goal.read_operation-requires
read_operation-requires g c = record {
  may = g.L.LoggedValues.stays_readable c.args.log.now c.loop-location.log c.loop-location.invariant.leads c.requires.may;
  within = omega (arith, c.requires.within, ap length c.loop-location.invariant.same, c.loop-location-test.true);
}

pub loop-location-preserved : goal.loop-location-preserved
loop-location-preserved g c =
    let means = meaning_of g.K.Write.encoding g.V.Write.encoding in
    let log : List Operation = g.L.LoggedValues.log c.args.log.now in
    let here = c.loop-location.invariant in
    let operation : Operation = means c.in_ok-operation.operation in
    let there : slice_get log c.loop-location.location ≡ Some operation =
    ap (λ (l : List Operation). slice_get l c.loop-location.location) (sym here.same) ∙ c.in_ok-operation.ensures.operation in
    record {
      read = ap (map means) c.in_ok-push.ensures ∙ (map-append means c.loop-location.operations.items (c.in_ok-operation.operation ∷ [])
          ∙ (ap (λ (l : List Operation). l ++ operation ∷ []) here.read
          ∙ sym (item_more log c.args.start c.loop-location.location operation (omega arith) there)));
      same = c.read_operation.ensures.same ∙ here.same;
      leads = g.L.LoggedValues.more_leads c.args.log.now c.loop-location.log c.read_operation.new.log here.leads c.in_ok-operation.ensures.leads;
    }

pub returns-clause-operations : goal.returns-clause-operations
returns-clause-operations g c =
    let log : List Operation = g.L.LoggedValues.log c.args.log.now in
    let end : c.loop-location.location ≡ c.args.stop = omega arith in
    c.loop-location.invariant.read ∙ ap (λ (n : ℕ). take (n - c.args.start) (drop c.args.start log)) end

pub returns-clause-leads : goal.returns-clause-leads
returns-clause-leads g c = c.loop-location.invariant.leads

pub returns-in_err-operation-clause-refused : goal.returns-in_err-operation-clause-refused
returns-in_err-operation-clause-refused g c =
    passed_on c.from_residual.result _ c.in_err-operation.field-0.0 c.from_residual.ensures.1
    (refused_behind g.L.LoggedValues.leads g.L.LoggedValues.refuses g.L.LoggedValues.more_leads g.L.LoggedValues.more_refuses
    c.args.log.now c.loop-location.log c.read_operation.new.log c.in_err-operation.field-0.0 c.loop-location.invariant.leads
    c.in_err-operation.ensures.refused)

pub returns-in_err-push-clause-refused : goal.returns-in_err-push-clause-refused
returns-in_err-push-clause-refused g c =
    passed_on c.from_residual-in_err-push.result _ _ c.from_residual-in_err-push.ensures.1
    (g.L.LoggedValues.more_leads c.args.log.now c.loop-location.log c.read_operation.new.log c.loop-location.invariant.leads
    c.in_ok-operation.ensures.leads)
