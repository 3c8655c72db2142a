use Rattle.std.proofs.Common.{◌≡◌, codes, arith, ap, sym}
use Rattle.std.proofs.lemmas.Slice.Eq.{text_from_reads}
use Rattle.auth_store_parts.specs.Line.{kind_of}
use Rattle.auth_store_parts.proofs.script.line.parse_kind.Goals as goal

pub returns-in-resize : goal.returns-in-resize
returns-in-resize c =
    let is : c.args.word.now ≡ codes "resize" =
    text_from_reads c.args.word.now (codes "resize") (omega arith)
    (omega arith, (omega arith, (omega arith, (omega arith, (omega arith, (omega arith, tt))))))
    in sym (ap kind_of is)
