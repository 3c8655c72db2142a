-- Writing a varint group by group, as a loop does.
use Rattle.std.proofs.Common.{◌≡◌, ℕ, ◌+◌, ◌/◌, ◌%◌, ◌<◌, ◌≤◌, List}
use Rattle.std.proofs.Common.{[], ◌∷◌, ◌++◌, sym, ◌∙◌, ap, append_assoc, arith, refl}
use Rattle.merkle_forest_parts.specs.Codec.{Extends}
use Rattle.merkle_forest_parts.specs.Varint.{varint}
use Rattle.merkle_forest_parts.specs.Laws.Varint.{varint_small, varint_large}

-- a group was written, and the rest is still to be
pub writes_on : (out new total : List ℕ) (n : ℕ) → 128 ≤ n → new ≡ out ++ (n % 128 + 128) ∷ []
    → out ++ varint n ≡ total → new ++ varint (n / 128) ≡ total
writes_on out new total n large pushed so_far =
    let order : n % 128 + 128 ≡ 128 + n % 128 = omega arith in
    let split : out ++ varint n ≡ out ++ (128 + n % 128) ∷ varint (n / 128) =
    ap (λ bytes. out ++ bytes) (varint_large n large) in
    rw (pushed, append_assoc, order) (sym split ∙ so_far)

-- the last group was written
pub writes_last : (out new total : List ℕ) (n : ℕ) → n < 128 → new ≡ out ++ n ∷ [] → out ++ varint n ≡ total
    → new ≡ total
writes_last out new total n small pushed so_far =
    pushed ∙ sym (ap (λ bytes. out ++ bytes) (varint_small n small)) ∙ so_far

pub extends_on : (old out new more : List ℕ) → Extends old out → new ≡ out ++ more → Extends old new
extends_on old out new more so_far pushed = (so_far.0 ++ more, rw (pushed, so_far.1, append_assoc) refl)
