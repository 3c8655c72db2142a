use Rattle.std.proofs.Common.{◌≡◌, ℕ, List, ◌∷◌, ◌++◌, ◌∙◌, [], Some, ap, sym, refl, inl, inr, option_map, arith}
use Rattle.std.proofs.lemmas.Nat.{from_be_bytes-to_be_bytes_8}
use Rattle.std.specs.Prelude.{codes}
use Rattle.std.specs.Fmt.{decimal}
use Rattle.auth_store_parts.specs.Report.{reported}
use Rattle.auth_store_session.specs.MachineCode.{meaning_of}
use Rattle.auth_store_proving.specs.Proving.{KeyAnswer, proved_value, proved_absent}
use Rattle.auth_store_proving.specs.ProvingCode.{key_answer_of}
use Rattle.auth_store_machine.specs.Machine.{Answer, ask_proof, ask_root, key_is, of_key, proof, root_is}
use Rattle.auth_store.specs.ScriptLines.{Proves, answer_line, bytes_of, exchange, proof_bytes, value_of, with_kept}
use Rattle.auth_store.proofs.ScriptLines.{goes_on, handled_line, not_root}
use Rattle.auth_store.specs.ScriptCode.{Now, now_of}
use Rattle.auth_store_parts.specs.declared.script.line.Line.TheVariants as lines
use Rattle.auth_store.proofs.script.progress.Progress.prove.Goals as goal

pub returns-in-Err : goal.returns-in-Err
returns-in-Err g c =
    let family = g.F.Named.family in
    let old : Now = now_of family c.args.self.now in
    let new : Now = record { progress = old.progress; session = c.ask-answer.new.session } in
    let answer : Answer = meaning_of bytes_of bytes_of value_of c.ask-answer.result in
    let other : Answer = meaning_of bytes_of bytes_of value_of c.in-Err.other in
    handled_line old new (lines.Prove c.args.key) _ _ _ (answer_line other) (exchange (ask_proof (of_key c.args.key.bytes)) answer ∷ [])
    (λ printed is. inl (
      answer,
      c.in-Err.ensures.other.1,
      refl,
      refl,
      is ∙ ap (λ (a : Answer). option_map reported (answer_line a)) c.in-Err.ensures.other.0,
    ))
    c.ask-answer.ensures
    c.report.ensures.line c.report.ensures.bad c.report.ensures.quiet

pub returns-in_default : goal.returns-in_default
returns-in_default g c =
    let family = g.F.Named.family in
    let old : Now = now_of family c.args.self.now in
    let new : Now = record { progress = old.progress; session = c.ask.new.session } in
    let proved : Answer = meaning_of bytes_of bytes_of value_of c.ask-answer.result in
    let answer : Answer = meaning_of bytes_of bytes_of value_of c.ask.result in
    let now = old.progress in
    let found : KeyAnswer = key_answer_of value_of c.in-Ok.found in
    let one = exchange (ask_proof (of_key c.args.key.bytes)) proved ∷ [] in
    let next = exchange ask_root answer ∷ [] in
    let same = not_root bytes_of bytes_of value_of c.ask.result found (proof_bytes found) now.kept c.in_default.not-Root in
    handled_line old new (lines.Prove c.args.key) _ _ _ (answer_line answer) (exchange (ask_proof (of_key c.args.key.bytes)) proved ∷ next)
    (λ printed is. inr (
      found,
      answer,
      ap (λ (a : Answer). exchange (ask_proof (of_key c.args.key.bytes)) a ∷ next) c.in-Ok.ensures.proved,
      sym (ap (λ k. with_kept k now) same.0),
      is ∙ sym (ap (option_map reported) same.1),
    ))
    (goes_on family old.session c.ask-answer.new.session new.session one next c.ask-answer.ensures c.ask.ensures)
    c.report-in_default.ensures.line c.report-in_default.ensures.bad c.report-in_default.ensures.quiet

pub returns-in_ok-report_present-in-Value : goal.returns-in_ok-report_present-in-Value
returns-in_ok-report_present-in-Value g c =
    let family = g.F.Named.family in
    let old : Now = now_of family c.args.self.now in
    let proved : Answer = meaning_of bytes_of bytes_of value_of c.ask-answer.result in
    let answer : Answer = meaning_of bytes_of bytes_of value_of c.ask.result in
    let number = c.in-Value.value in
    let bytes = c.in-Value.bytes.items in
    let digest = c.in-Root.root.bytes in
    let now = old.progress in
    let one = exchange (ask_proof (of_key c.args.key.bytes)) proved ∷ [] in
    let next = exchange ask_root answer ∷ [] in
    let found : KeyAnswer = proved_value (value_of number) bytes in
    let text : List ℕ = reported (codes "present " ++ decimal number) in
    let shown : proved ≡ proof (key_is found) = c.in-Ok.ensures.proved ∙ ap (λ k. proof (key_is (key_answer_of value_of k))) c.in-Value.is in
    let does : Proves now c.args.key.bytes (exchange (ask_proof (of_key c.args.key.bytes)) proved ∷ next) (Some text)
    (with_kept (Some (bytes, digest)) now) = inr (
      found,
      root_is digest,
      ap (λ (a : Answer). exchange (ask_proof (of_key c.args.key.bytes)) a ∷ next) shown
          ∙ ap (λ a.
          exchange (ask_proof (of_key c.args.key.bytes)) (proof (key_is found)) ∷ exchange ask_root (meaning_of bytes_of bytes_of value_of a) ∷ [])
          c.in-Root.is,
      refl,
      ap (λ (n : ℕ). Some (reported (codes "present " ++ decimal n)))
          (sym (from_be_bytes-to_be_bytes_8 number (omega arith))),
    ) in (
      exchange (ask_proof (of_key c.args.key.bytes)) proved ∷ next,
      text,
      (does, goes_on family old.session c.ask-answer.new.session c.ask.new.session one next c.ask-answer.ensures c.ask.ensures),
      c.in_ok-report_present-in-Value.ensures,
    )

pub returns-in_ok-report_absent-in-Absent : goal.returns-in_ok-report_absent-in-Absent
returns-in_ok-report_absent-in-Absent g c =
    let family = g.F.Named.family in
    let old : Now = now_of family c.args.self.now in
    let proved : Answer = meaning_of bytes_of bytes_of value_of c.ask-answer.result in
    let answer : Answer = meaning_of bytes_of bytes_of value_of c.ask.result in
    let bytes = c.in-Absent.bytes.items in
    let digest = c.in-Root.root.bytes in
    let now = old.progress in
    let one = exchange (ask_proof (of_key c.args.key.bytes)) proved ∷ [] in
    let next = exchange ask_root answer ∷ [] in
    let found : KeyAnswer = proved_absent bytes in
    let text : List ℕ = reported (codes "absent") in
    let shown : proved ≡ proof (key_is found) = c.in-Ok.ensures.proved ∙ ap (λ k. proof (key_is (key_answer_of value_of k))) c.in-Absent.is in
    let does : Proves now c.args.key.bytes (exchange (ask_proof (of_key c.args.key.bytes)) proved ∷ next) (Some text)
    (with_kept (Some (bytes, digest)) now) = inr (
      found,
      root_is digest,
      ap (λ (a : Answer). exchange (ask_proof (of_key c.args.key.bytes)) a ∷ next) shown
          ∙ ap (λ a.
          exchange (ask_proof (of_key c.args.key.bytes)) (proof (key_is found)) ∷ exchange ask_root (meaning_of bytes_of bytes_of value_of a) ∷ [])
          c.in-Root.is,
      refl,
      refl,
    ) in (
      exchange (ask_proof (of_key c.args.key.bytes)) proved ∷ next,
      text,
      (does, goes_on family old.session c.ask-answer.new.session c.ask.new.session one next c.ask-answer.ensures c.ask.ensures),
      c.in_ok-report_absent-in-Absent.ensures,
    )
