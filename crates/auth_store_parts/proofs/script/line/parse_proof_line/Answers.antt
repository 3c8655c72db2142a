use Rattle.std.proofs.Common.{◌≡◌, ◌∙◌, None, Some, rules, sym}
use Rattle.auth_store_parts.specs.Line.{key_of}
use Rattle.auth_store_parts.proofs.Lines.{absent_line, absent_none, key_none, key_some, no_proof_line}
use Rattle.auth_store_parts.proofs.script.line.parse_proof_line.Goals as goal

pub returns-in_err-key-3 : goal.returns-in_err-key-3
returns-in_err-key-3 c =
    let unread : key_of c.in-Some-strip_words-2.key.now ≡ None = search (key_none, rules) in
    c.from_residual-in_err-key-3.ensures
    ∙ sym (absent_none c.args.line.now c.in-Some-strip_words-2.key.now c.in_default.ensures c.in_default-strip_words.ensures
    c.in-Some-strip_words-2.ensures unread)

pub returns-in_ok-key-3 : goal.returns-in_ok-key-3
returns-in_ok-key-3 c =
    let read : key_of c.in-Some-strip_words-2.key.now ≡ Some c.in_ok-key-3.key = search (key_some, rules) in
    sym (absent_line c.args.line.now c.in-Some-strip_words-2.key.now c.in_ok-key-3.key c.in_default.ensures
    c.in_default-strip_words.ensures c.in-Some-strip_words-2.ensures read)

pub returns-in_default-strip_words-2 : goal.returns-in_default-strip_words-2
returns-in_default-strip_words-2 c =
    c.parse_device_line.ensures
    ∙ sym (no_proof_line c.args.line.now c.in_default.ensures c.in_default-strip_words.ensures c.in_default-strip_words-2.ensures)
