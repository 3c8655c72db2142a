use Rattle.std.proofs.Common.{sym, subst}
use Rattle.auth_store_index.specs.Sources.{IsReadable}
use Rattle.auth_store_index.specs.declared.values.ReadError.TheVariants.{Memory}
use Rattle.auth_store_index.specs.Laws.Refused.{refused_at, refused_further}
use Rattle.auth_store_index.proofs.values.has_value.Goals as goal

pub returns-clause-leads : goal.returns-clause-leads
returns-clause-leads g c = g.L.LoggedValues.more_leads c.args.log.now c.read_at.new.log c.value_from.new.log
    c.in_ok-before.ensures.leads c.in_ok-after.ensures.leads

pub returns-in_err-after-clause-refused : goal.returns-in_err-after-clause-refused
returns-in_err-after-clause-refused g c =
    refused_further g.L.LoggedValues.leads g.L.LoggedValues.refuses g.L.LoggedValues.more_leads
    g.L.LoggedValues.more_refuses c.args.log.now c.read_at.new.log c.value_from.new.log
    c.from_residual-in_err-after.result c.in_err-after.field-0.0 c.from_residual-in_err-after.ensures.1
    c.in_ok-before.ensures.leads c.in_err-after.ensures.refused

pub returns-in_err-is_same_value-clause-refused : goal.returns-in_err-is_same_value-clause-refused
returns-in_err-is_same_value-clause-refused g c =
    let one = c.args.log.now in
    let other = c.value_from.new.log in
    refused_at (g.L.LoggedValues.leads one other) (g.L.LoggedValues.refuses one other)
    c.from_residual-in_err-is_same_value.result (Memory c.in_err-is_same_value.field-0.0)
    c.from_residual-in_err-is_same_value.ensures.1
    (g.L.LoggedValues.more_leads one c.read_at.new.log other c.in_ok-before.ensures.leads c.in_ok-after.ensures.leads)

pub value_from-requires : goal.value_from-requires
value_from-requires g c = record {
  may = g.L.LoggedValues.stays_readable c.args.log.now c.read_at.new.log c.in_ok-before.ensures.leads c.requires.may;
  readable = subst (λ log. IsReadable log c.args.source.now) (sym c.read_at.ensures.same) c.requires.readable;
}
