use Rattle.std.proofs.Common.{◌≡◌, ℕ, zero, suc, ◌+◌, Bool, List, [], ◌∷◌, ◌++◌, take, Some, slice_get, ap, sym, refl, ◌∙◌, arith}
use Rattle.std.specs.Prelude.{unwrap_or}
use native.Mathlib.Numerals.{unary_clauses}
use Rattle.std.proofs.lemmas.List.{length-map, take_all}
use Rattle.state_ops.specs.Operation.{meaning_of}
use Rattle.auth_store_parts.specs.History.{activity_bits, meanings}
use Rattle.auth_store_parts.specs.Laws.Places.{length-activity_bits}
use Rattle.auth_store_parts.proofs.history.activity.activity_bits.Goals as goal

take-more : (xs : List Bool) (n : ℕ) (x : Bool) → slice_get xs n ≡ Some x → take n xs ++ x ∷ [] ≡ take (suc n) xs
take-more [] n x is = absurd (cc)
take-more (first ∷ xs) zero x is = ap (λ o. unwrap_or o x ∷ []) (sym is)
take-more (first ∷ xs) (suc n) x is = ap (λ l. first ∷ l) (take-more xs n x is)

pub loop-location-preserved : goal.loop-location-preserved
loop-location-preserved g l =
    let bits = activity_bits (meanings g.K.Write.encoding g.V.Write.encoding l.args.log.now) in
    let next : suc l.loop-location.location ≡ l.loop-location.location + 1 = simp unary_clauses refl in
    l.in_ok-push.ensures.items
    ∙ (ap (λ kept. kept ++ l.counts_at.result ∷ []) l.loop-location.invariant
    ∙ (take-more bits l.loop-location.location l.counts_at.result l.counts_at.ensures
    ∙ ap (λ n. take n bits) next))

pub returns : goal.returns
returns g c =
    let log = meanings g.K.Write.encoding g.V.Write.encoding c.args.log.now in
    let long = length-activity_bits log in
    let count = length-map c.args.log.now (meaning_of g.K.Write.encoding g.V.Write.encoding) in
    c.loop-location.invariant
    ∙ take_all c.loop-location.location (activity_bits log) (omega (arith, long, count, c.loop-location-test.false))
