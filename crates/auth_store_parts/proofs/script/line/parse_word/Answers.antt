use Rattle.std.proofs.Common.{◌≡◌, codes, arith, ap}
use Rattle.std.proofs.lemmas.Slice.Eq.{text_from_reads}
use Rattle.auth_store_parts.specs.Line.{line_of}
use Rattle.auth_store_parts.proofs.script.line.parse_word.Goals as goal

pub returns-in-commit : goal.returns-in-commit
returns-in-commit c =
    let is : c.args.line.now ≡ codes "commit" =
    text_from_reads c.args.line.now (codes "commit") (omega arith)
    (omega arith, (omega arith, (omega arith, (omega arith, (omega arith, (omega arith, tt))))))
    in ap line_of is
