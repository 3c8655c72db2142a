use Rattle.std.proofs.Common.{◌∷◌, ◌∙◌, [], ap, inl, inr, option_map}
use Rattle.std.specs.Prelude.{codes}
use Rattle.auth_store_parts.specs.Batch.{meanings}
use Rattle.auth_store_session.specs.MachineCode.{meaning_of}
use Rattle.auth_store_machine.specs.Machine.{Answer, ask_commit, ask_commits, is_root_of_commit}
use Rattle.auth_store.specs.ScriptLines.{answer_line, bytes_of, count_line, exchange, value_of, with_words}
use Rattle.auth_store.proofs.ScriptLines.{goes_on, handled_line, not_committed}
use Rattle.auth_store.specs.ScriptCode.{Now, now_of}
use Rattle.auth_store_parts.specs.declared.script.line.Line.TheVariants as lines
use Rattle.auth_store.proofs.script.progress.Progress.commit.Goals as goal

pub returns-in-Committed : goal.returns-in-Committed
returns-in-Committed g c =
    let family = g.F.Named.family in
    let old : Now = now_of family c.args.self.now in
    let new : Now = record {
      progress = with_words (meanings bytes_of value_of c.replace-batch.new.dest.words.items) old.progress;
      session = c.ask-count.new.session;
    } in
    let done : Answer = meaning_of bytes_of bytes_of value_of c.ask.result in
    let answer : Answer = meaning_of bytes_of bytes_of value_of c.ask-count.result in
    let metadata = option_map value_of c.args.metadata in
    let now = old.progress in
    let one = exchange (ask_commit (meanings bytes_of value_of c.replace-batch.result.words.items) metadata) done ∷ [] in
    let other = exchange ask_commits answer ∷ [] in
    handled_line old new (lines.Commit c.args.metadata) _ _ _ (count_line (codes "commit ") answer)
    (exchange (ask_commit (meanings bytes_of value_of c.replace-batch.result.words.items) metadata) done ∷ other)
    (λ printed is. (
      inr (
        done,
        answer,
        ap (λ a. is_root_of_commit (meaning_of bytes_of bytes_of value_of a)) c.in-Committed.is,
        ap (λ batch. exchange (ask_commit (meanings bytes_of value_of batch.words.items) metadata) done ∷ other)
            c.replace-batch.ensures.value,
        is,
      ),
      ap (λ batch. with_words (meanings bytes_of value_of batch.words.items) now) c.replace-batch.ensures.after
          ∙ ap (λ items. with_words (meanings bytes_of value_of items) now) c.new.ensures,
    ))
    (goes_on family old.session c.ask.new.session new.session one other c.ask.ensures c.ask-count.ensures)
    c.report_committed.ensures.line c.report_committed.ensures.bad c.report_committed.ensures.quiet

pub returns-in_default : goal.returns-in_default
returns-in_default g c =
    let family = g.F.Named.family in
    let old : Now = now_of family c.args.self.now in
    let new : Now = record {
      progress = with_words (meanings bytes_of value_of c.replace-batch.new.dest.words.items) old.progress;
      session = c.ask.new.session;
    } in
    let answer : Answer = meaning_of bytes_of bytes_of value_of c.ask.result in
    let metadata = option_map value_of c.args.metadata in
    let now = old.progress in
    handled_line old new (lines.Commit c.args.metadata) _ _ _ (answer_line answer)
    (exchange (ask_commit (meanings bytes_of value_of c.replace-batch.result.words.items) metadata) answer ∷ [])
    (λ printed is. (
      inl (
        answer,
        not_committed bytes_of bytes_of value_of c.ask.result c.in_default.not-Committed,
        ap (λ batch. exchange (ask_commit (meanings bytes_of value_of batch.words.items) metadata) answer ∷ [])
            c.replace-batch.ensures.value,
        is,
      ),
      ap (λ batch. with_words (meanings bytes_of value_of batch.words.items) now) c.replace-batch.ensures.after
          ∙ ap (λ items. with_words (meanings bytes_of value_of items) now) c.new.ensures,
    ))
    c.ask.ensures
    c.report.ensures.line c.report.ensures.bad c.report.ensures.quiet
