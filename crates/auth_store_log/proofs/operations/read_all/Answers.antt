use Rattle.std.proofs.Common.{◌≡◌, true, false, subst, sym, ◌∙◌}
use Rattle.std.specs.Prelude.{IfErr}
use Rattle.std.proofs.lemmas.Result.{err_from_is_err_and}
use Rattle.state_ops.specs.Operation.{meaning_of}
use Rattle.auth_store_parts.specs.History.{meanings}
use Rattle.auth_store_log.specs.Records.{format_of, IsNoLog}
use Rattle.auth_store_log.specs.declared.error.LogError.TheVariants.{Corrupt}
use Rattle.auth_store_log.proofs.Reading.{refuted, pushed_bytes, pushed_recorded}
use Rattle.auth_store_log.proofs.operations.read_all.Goals as goal

pub returns-in_err-operation-clause-corrupt : goal.returns-in_err-operation-clause-corrupt
returns-in_err-operation-clause-corrupt g c =
    let key = g.K.Write.encoding in
    let value = g.V.Write.encoding in
    let format = format_of (g.K.Read.after tt) (g.V.Read.after tt) g.K.FixedSize.SIZE g.V.FixedSize.SIZE in
    let p = err_from_is_err_and c.from_residual-in_err-operation.result c.from_residual-in_err-operation.ensures.1 in
    subst (λ r. IfErr r (λ e. e ≡ Corrupt → IsNoLog format c.args.bytes.now)) (sym p.1) (λ is log are same.
    refuted format (meanings key value c.loop-cursor.log.items) log c.loop-cursor.cursor c.loop-cursor.invariant.recorded are
    (same ∙ c.loop-cursor.invariant.bytes) (λ none. let yes : false ≡ true = c.loop-cursor-test.ensures.1 none in absurd (cc))
    (c.in_err-operation.ensures.corrupt (sym p.2 ∙ is)))

pub loop-cursor-preserved : goal.loop-cursor-preserved
loop-cursor-preserved g c =
    let key = g.K.Write.encoding in
    let value = g.V.Write.encoding in
    let format = format_of (g.K.Read.after tt) (g.V.Read.after tt) g.K.FixedSize.SIZE g.V.FixedSize.SIZE in
    let log = c.loop-cursor.log.items in
    let new = c.push.new.self.items in
    let item = c.in_ok-operation.operation in
    record {
      bytes = pushed_bytes format (meaning_of key value) log new item c.in_ok-push.ensures.items c.args.bytes.now c.loop-cursor.cursor
          c.next_operation.new.cursor c.loop-cursor.invariant.bytes c.in_ok-operation.ensures.bytes;
      recorded = pushed_recorded format (meaning_of key value) log new item c.in_ok-push.ensures.items c.loop-cursor.invariant.recorded
          c.in_ok-operation.ensures.recorded;
    }
