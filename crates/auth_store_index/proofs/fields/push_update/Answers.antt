use Rattle.std.proofs.Common.{sym, subst}
use Rattle.auth_store_index.specs.Sources.{IsReadable}
use Rattle.auth_store_index.specs.declared.values.ReadError.TheVariants.{Memory}
use Rattle.auth_store_index.specs.Laws.Refused.{refused_at, refused_further}
use Rattle.auth_store_index.specs.Laws.Sourced.{own_readable}
use Rattle.auth_store_index.proofs.fields.push_update.Goals as goal

pub returns-clause-leads : goal.returns-clause-leads
returns-clause-leads g c = g.L.LoggedValues.more_leads c.args.log.now c.has_fields.new.log c.value_from.new.log
    c.in_ok-has_fields.ensures.leads c.in_ok-value_from.ensures.leads

pub returns-in_err-value_from-clause-refused : goal.returns-in_err-value_from-clause-refused
returns-in_err-value_from-clause-refused g c =
    refused_further g.L.LoggedValues.leads g.L.LoggedValues.refuses g.L.LoggedValues.more_leads
    g.L.LoggedValues.more_refuses c.args.log.now c.has_fields.new.log c.value_from.new.log
    c.from_residual-in_err-value_from.result c.in_err-value_from.field-0.0
    c.from_residual-in_err-value_from.ensures.1 c.in_ok-has_fields.ensures.leads c.in_err-value_from.ensures.refused

pub returns-in_err-clone-2-clause-refused : goal.returns-in_err-clone-2-clause-refused
returns-in_err-clone-2-clause-refused g c =
    let one = c.args.log.now in
    let other = c.value_from.new.log in
    refused_at (g.L.LoggedValues.leads one other) (g.L.LoggedValues.refuses one other)
    c.from_residual-in_err-clone-2.result (Memory c.in_err-clone-2.field-0.0) c.from_residual-in_err-clone-2.ensures.1
    (g.L.LoggedValues.more_leads one c.has_fields.new.log other c.in_ok-has_fields.ensures.leads
    c.in_ok-value_from.ensures.leads)

pub returns-in_err-push-clause-refused : goal.returns-in_err-push-clause-refused
returns-in_err-push-clause-refused g c =
    let one = c.args.log.now in
    let other = c.value_from.new.log in
    refused_at (g.L.LoggedValues.leads one other) (g.L.LoggedValues.refuses one other)
    c.from_residual-in_err-push.result (Memory c.in_err-push.field-0.0) c.from_residual-in_err-push.ensures.1
    (g.L.LoggedValues.more_leads one c.has_fields.new.log other c.in_ok-has_fields.ensures.leads
    c.in_ok-value_from.ensures.leads)

pub value_from-requires : goal.value_from-requires
value_from-requires g c = record {
  may = g.L.LoggedValues.stays_readable c.args.log.now c.has_fields.new.log c.in_ok-has_fields.ensures.leads c.requires.may;
  readable = subst (λ log. IsReadable log c.args.source.now) (sym c.has_fields.ensures.same)
      (own_readable (g.L.LoggedValues.log c.args.log.now) (g.K.Write.encoding c.args.key.now) c.args.source.now c.requires.own);
}
