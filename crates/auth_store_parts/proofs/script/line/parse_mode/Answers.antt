use Rattle.std.proofs.Common.{◌≡◌, codes, arith, ap, sym}
use Rattle.std.proofs.lemmas.Slice.Eq.{text_from_reads}
use Rattle.auth_store_parts.specs.Line.{mode_of}
use Rattle.auth_store_parts.proofs.script.line.parse_mode.Goals as goal

pub returns-in-prefix : goal.returns-in-prefix
returns-in-prefix c =
    let is : c.args.word.now ≡ codes "prefix" =
    text_from_reads c.args.word.now (codes "prefix") (omega arith)
    (omega arith, (omega arith, (omega arith, (omega arith, (omega arith, (omega arith, tt))))))
    in sym (ap mode_of is)

pub returns-in-subset : goal.returns-in-subset
returns-in-subset c =
    let is : c.args.word.now ≡ codes "subset" =
    text_from_reads c.args.word.now (codes "subset") (omega arith)
    (omega arith, (omega arith, (omega arith, (omega arith, (omega arith, (omega arith, tt))))))
    in sym (ap mode_of is)
