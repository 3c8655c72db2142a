use Rattle.std.proofs.Common.{ℕ, List, sym, ◌∙◌, ap, arith, Some}
use Rattle.state_theory.proofs.HonestLemmas.{honest_root}
use Rattle.state_proofs_parts.proofs.bitmap_laws.honest_proofs_of_bits_lead_to_the_root.Goals as goal

pub returns : goal.returns
returns c hash bagging width all bit wide few there =
    honest_root hash bagging width wide all few
    (λ (elements : List (List ℕ)) (start stop : ℕ) few_elements some within.
    c.built_proofs_lead_to_the_root.ensures hash bagging elements 0 start stop few_elements some within (omega arith)
    ∙ ap (λ (r : List ℕ). Some r) (sym (c.plain_roots_are_tree_roots.ensures hash bagging elements 0))) bit there
