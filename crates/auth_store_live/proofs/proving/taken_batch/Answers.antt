use Rattle.std.proofs.Common.{List, None, option_map, refl}
use Rattle.std.proofs.lemmas.Result.{err_from_is_err_and}
use Rattle.auth_store_ledger.specs.Store.{commit_after}
use Rattle.auth_store_log.specs.Records.{Format, format_of}
use Rattle.auth_store_parts.specs.Batch as words
use Rattle.auth_store_parts.specs.Batch.{Word}
use Rattle.auth_store_parts.specs.History.{History, history_of}
use Rattle.auth_store_machine.specs.Reads.{log_in}
use Rattle.auth_store_machine.proofs.Readings.{batch_cause, batch_left, batch_names, batch_stays, cause_told, left_told, read_all}
use Rattle.auth_store_live.proofs.proving.taken_batch.Goals as goal

pub returns-in_err-commit-clause-names : goal.returns-in_err-commit-clause-names
returns-in_err-commit-clause-names g c = batch_names _ _ _ _ _ _ _ _ _ c.in_err-commit.ensures.refused

pub returns-clause-names : goal.returns-clause-names
returns-clause-names g c = (c.in_ok-commit.ensures.leads.0, c.in_ok-commit.ensures.leads.1)

pub returns-in_err-commit-clause-readable : goal.returns-in_err-commit-clause-readable
returns-in_err-commit-clause-readable g c = batch_stays _ _ _ _ _ _ _ _ _ c.in_err-commit.ensures.refused c.requires.may

pub returns-clause-readable : goal.returns-clause-readable
returns-clause-readable g c = c.in_ok-commit.ensures.leads.3.readable c.requires.may

pub returns-in_err-commit-clause-reads : goal.returns-in_err-commit-clause-reads
returns-in_err-commit-clause-reads g c =
    let told = err_from_is_err_and c.from_residual.result c.from_residual.ensures.1 in
    left_told _ _ _ _ _ told.1 told.2 (batch_left _ _ _ _ _ _ _ _ _ c.in_err-commit.ensures.refused)

pub returns-clause-reads : goal.returns-clause-reads
returns-clause-reads g c = read_all _ _ _ _ None refl refl c.in_ok-commit.ensures.leads.3

pub returns-in_err-commit-clause-refused : goal.returns-in_err-commit-clause-refused
returns-in_err-commit-clause-refused g c =
    let format : Format = format_of (g.K.Read.after tt) (g.V.Read.after tt) g.K.FixedSize.SIZE g.V.FixedSize.SIZE in
    let log = log_in format (g.B.Blob.calls c.args.log.now.blob.now) c.args.log.now.writer.now in
    let said : List Word = words.meanings g.K.Write.encoding g.V.Write.encoding c.args.batch.words.items in
    let next : History = commit_after said (option_map g.V.Write.encoding c.args.metadata) (history_of log) in
    let told = err_from_is_err_and c.from_residual.result c.from_residual.ensures.1 in
    cause_told _ _ _ _ told.1 told.2
    (batch_cause _ _ _ _ _ _ _ next _ c.in_err-commit.ensures.refused c.requires.may)
