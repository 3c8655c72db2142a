use Rattle.std.proofs.lemmas.Bool.Decides.{Decides-eqb}
use Rattle.std.proofs.lemmas.Slice.Eq.{strip_prefix_is}
use Rattle.auth_store_parts.proofs.Lines.{after_is}
use Rattle.auth_store_parts.proofs.script.line.strip_words.Goals as goal

pub returns : goal.returns
returns c = after_is _ _ _ (strip_prefix_is Decides-eqb c.args.line.now c.args.words.now _ c.strip_prefix.ensures.cases)
