use Rattle.std.proofs.Common.{◌≡◌, ◌∙◌, rules}
use Rattle.auth_store_parts.specs.Line.{line_of}
use Rattle.auth_store_parts.proofs.Spellings.{spelled_is_read, read_if_spelled}
use Rattle.auth_store_parts.proofs.script.line.parse_line.Goals as goal

exact : (c : goal.After-or_else) → c.or_else.result ≡ line_of c.args.line.now
exact c = search rules

pub returns : goal.returns
returns c = record {
  exact = exact c;
  spelled = read_if_spelled c.args.line.now _ (exact c);
  only = λ asked h. exact c ∙ spelled_is_read asked c.args.line.now h;
}
