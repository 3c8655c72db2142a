-- A proof over a range leads to one root, or to none.
use Rattle.std.proofs.Common.{◌≡◌, ℕ, ◌%◌, List, Option, None, Some, option_map, sym, ◌∙◌, ap, arith}
use Rattle.merkle_forest.specs.Forest.{Rule}
use Rattle.merkle_forest.specs.Hashing.{Hash}
use Rattle.merkle_forest.specs.Made.{value}
use Rattle.state_theory.specs.Canonical.{canonical_string}
use Rattle.state_proofs.specs.RangeExtracted.{LeadsNowhere, by_size, by_leaves, by_shape, by_chunks, by_digests}
use Rattle.state_theory.specs.Verified.{Shown, shown_bits, VerifiesRange, RangeParts}
use Rattle.state_theory.proofs.RangeIsTrue.{at_level}

same_some : (one other : List ℕ) → ◌≡◌ {A = Option (List ℕ)} (Some one) (Some other) → one ≡ other
same_some one other same = cc

pub one_led : (rule : Rule) (hash : Hash) (one other : List ℕ) (proof : RangeParts) (shown : Shown) → VerifiesRange rule hash one proof shown
    → VerifiesRange rule hash other proof shown → one ≡ other
one_led rule hash one other proof shown it also =
    let at = at_level rule hash other proof shown it.grafting_height it.whole also in
    let roots : it.grafted_root ≡ also.grafted_root = same_some it.grafted_root also.grafted_root (sym it.leads ∙ at.leads) in
    sym it.seals
    ∙ ap (λ d. hash (canonical_string proof.operations_root d proof.pending (proof.leaves % shown_bits shown) proof.partial)) roots
    ∙ also.seals

none_some : (hash : Hash) (root : List ℕ) (got : Option _) → got ≡ None → option_map (value hash) got ≡ Some root → ⊥
none_some hash root got none is = let e : ◌≡◌ {A = Option (List ℕ)} None (Some root) = sym (ap (option_map (value hash)) none) ∙ is in cc

pub none_led : (rule : Rule) (hash : Hash) (root : List ℕ) (proof : RangeParts) (shown : Shown) → LeadsNowhere rule hash proof shown
    → VerifiesRange rule hash root proof shown → ⊥
none_led rule hash root proof shown (by_size none) it = none it.grafting_height it.whole it.low
none_led rule hash root proof shown (by_leaves many) it = omega (arith, many, it.few)
none_led rule hash root proof shown (by_shape bad) it = bad it.shaped
none_led rule hash root proof shown (by_chunks level whole bad) it = bad (at_level rule hash root proof shown level whole it).fits
none_led rule hash root proof shown (by_digests level whole none) it =
    none_some hash it.grafted_root _ none (at_level rule hash root proof shown level whole it).leads
