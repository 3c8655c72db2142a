-- What a writer of several parts leaves after a refusal: the old bytes and perhaps more.
use Rattle.std.proofs.Common.{◌≡◌, ℕ, List, [], ◌++◌, Result, Ok, Err, sym, ◌∙◌, ap, append-nil, append_assoc}
use Rattle.std.specs.Prelude.{OnErr}
use Rattle.merkle_forest.specs.Codec.{Extends}

-- after a first part that was refused
pub extends_first : {T E : Type 0} (result : Result T E) (old new : List ℕ) → new ≡ old → OnErr result (Extends old new)
extends_first (Ok u) old new same = tt
extends_first (Err e) old new same = ([], same ∙ sym (append-nil old))

-- after two parts
pub extends_two : {T E : Type 0} (result : Result T E) (old one two new first second : List ℕ) → one ≡ old ++ first
    → two ≡ one ++ second
    → OnErr result (new ≡ two) → OnErr result (Extends old new)
extends_two (Ok u) old one two new first second is next same = tt
extends_two (Err e) old one two new first second is next same =
    (first ++ second, same ∙ next ∙ ap (λ bytes. bytes ++ second) is ∙ append_assoc old first second)
